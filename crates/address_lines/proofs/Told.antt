-- How far lines are told of.
use Rattle.std.proofs.Common.{◌≡◌, ◌≢◌, ℕ, ◌+◌, ◌⊎◌, ◌↔◌, Bool, true, false, List, [], ◌∷◌, ◌++◌, Option, None, Some, IfSome, append_assoc, ap, refl, subst, sym, ◌∙◌, inl, inr}
use Rattle.std.proofs.lemmas.Bool.{false≢true}
use Rattle.std.proofs.lemmas.List.{append-nil}
use Rattle.std.specs.Prelude.{◌&&◌, IsTrue}
use Rattle.std.specs.Io.BufRead.{drop_through}
use Rattle.std.specs.Io.KnownBytes.{Appends}
use Rattle.std.specs.List.{AllByRecursion}
use Rattle.std.specs.declared.net.ip_addr.IpAddr.{IpAddr}
use Rattle.line_program.specs.Lines.{IsLineRead}
use Rattle.line_program.specs.Listing.{SpellsEach, Writes}
use Rattle.line_program.proofs.Listing.{appends_then}
use Rattle.address_lists.specs.Lookups.{HasIp, IsTold}
use Rattle.address_lists.specs.declared.addresses.Addresses.{Addresses}
use Rattle.address_lists.specs.declared.read.ListError.{ListError}
use Rattle.address_lists.specs.declared.read.ListError.TheVariants.{Memory, Unread}
use Rattle.address_lines.specs.Sought.{AreSought, IsAddressLine, IsBlank, IsNoAddress, IsToldOf, IsUntold}
use Rattle.address_lines.specs.Sought.AreSought.{Address, Blank, Ended}

all_more : (P : IpAddr → Type 0) (addresses : List IpAddr) (one : IpAddr)
    → AllByRecursion P (addresses ++ one ∷ []) ↔ (AllByRecursion P addresses × P one)
all_more P [] one = (λ all. (tt, all.0), λ both. (both.1, tt))
all_more P (first ∷ addresses) one =
    let later = all_more P addresses one in (
      λ all. ((all.0, (later.0 all.1).0), (later.0 all.1).1),
      λ both. (both.0.0, later.1 (both.0.1, both.1)),
    )

spelled_more : (T : IpAddr → List ℕ → Type 0) (addresses : List IpAddr) (one : IpAddr)
    (text line : List ℕ) → SpellsEach T addresses text → T one line
    → SpellsEach T (addresses ++ one ∷ []) (text ++ line)
spelled_more T [] one text line none is =
    subst (λ before. SpellsEach T (one ∷ []) (before ++ line)) (sym none)
    (line, [], is, refl, sym (append-nil line))
spelled_more T (first ∷ addresses) one text line (start, others, spells, each, whole) is = (
  start,
  others ++ line,
  spells,
  spelled_more T addresses one others line each is,
  ap (λ all. all ++ line) whole ∙ append_assoc start others line,
)

both_told : (P : IpAddr → Type 0) (addresses : List IpAddr) (one : IpAddr) (all has : Bool)
    → IsTrue all ↔ AllByRecursion P addresses → IsTrue has ↔ P one
    → IsTrue (all && has) ↔ AllByRecursion P (addresses ++ one ∷ [])
both_told P addresses one true true before is =
    (λ yes. (all_more P addresses one).1 (before.0 refl, is.0 refl), λ each. refl)
both_told P addresses one true false before is = (
  λ yes. absurd (false≢true yes),
  λ each. is.1 ((all_more P addresses one).0 each).1,
)
both_told P addresses one false has before is = (
  λ yes. absurd (false≢true yes),
  λ each. before.1 ((all_more P addresses one).0 each).0,
)

module _ (list : Addresses) where
  -- the lines of the input before the one of this number are told of
  pub record IsToldTo (input : List ℕ) (left before now : Option (List ℕ)) (number : ℕ)
      (has_all : Bool) : Type 0 where
    pub remaining : List ℕ
    pub left_is : left ≡ Some remaining
    pub addresses : List IpAddr
    pub goes_on : (more : List IpAddr) (last : ℕ) (rest : List ℕ)
        → AreSought number remaining more last rest
        → AreSought 1 input (addresses ++ more) last rest
    pub all : IsTrue has_all ↔ AllByRecursion (HasIp list) addresses
    pub text : List ℕ
    pub spelled : SpellsEach (IsTold list) addresses text
    pub appended : Appends before now text

  and_true : (addresses : List IpAddr) (has_all : Bool)
      → IsTrue has_all ↔ AllByRecursion (HasIp list) addresses
      → IsTrue (has_all && true) ↔ AllByRecursion (HasIp list) addresses
  and_true addresses true told = told
  and_true addresses false told = told

  blank_told : (input : List ℕ) (left later before now next : Option (List ℕ)) (number : ℕ)
      (has_all has : Bool) (line : List ℕ)
      → (told : IsToldTo input left before now number has_all)
      → IsLineRead (Some told.remaining) later line → IsBlank line → has ≡ true
      → Appends now next []
      → IsToldTo input later before next (number + 1) (has_all && has)
  blank_told input left later before now next number has_all has line told
      (some, later_is, is_line) blank has_it appended = record {
        remaining = drop_through 10 told.remaining;
        left_is = later_is;
        addresses = told.addresses;
        goes_on =
            λ more last rest all. told.goes_on more last rest
            (Blank number told.remaining more last rest some (subst IsBlank is_line blank) all);
        all =
            subst (λ b. IsTrue (has_all && b) ↔ AllByRecursion (HasIp list) told.addresses)
            (sym has_it) (and_true told.addresses has_all told.all);
        text = told.text;
        spelled = told.spelled;
        appended =
            subst (Appends before next) (append-nil told.text)
            (appends_then before now next told.text [] told.appended appended);
      }

  address_told : (input : List ℕ) (left later before now next : Option (List ℕ)) (number : ℕ)
      (has_all has : Bool) (line text : List ℕ) (address : IpAddr)
      → (told : IsToldTo input left before now number has_all)
      → IsLineRead (Some told.remaining) later line → IsAddressLine line address
      → IsTrue has ↔ HasIp list address → IsTold list address text → Appends now next text
      → IsToldTo input later before next (number + 1) (has_all && has)
  address_told input left later before now next number has_all has line text address told
      (some, later_is, is_line) is has_it says appended = record {
        remaining = drop_through 10 told.remaining;
        left_is = later_is;
        addresses = told.addresses ++ address ∷ [];
        goes_on =
            λ more last rest all. subst (λ each. AreSought 1 input each last rest)
            (sym (append_assoc told.addresses (address ∷ []) more))
            (told.goes_on (address ∷ more) last rest
            (Address number told.remaining address more last rest some
            (subst (λ l. IsAddressLine l address) is_line is) all));
        all = both_told (HasIp list) told.addresses address has_all has told.all has_it;
        text = told.text ++ text;
        spelled =
            spelled_more (IsTold list) told.addresses address told.text text told.spelled says;
        appended = appends_then before now next told.text text told.appended appended;
      }

  pub line_told : (input left later before now next : Option (List ℕ)) (number : ℕ)
      (has_all has : Bool) (line : List ℕ)
      → IfSome input (λ bytes. IsToldTo bytes left before now number has_all)
      → IsLineRead left later line → Writes now next (IsToldOf list line has)
      → IfSome input (λ bytes. IsToldTo bytes later before next (number + 1) (has_all && has))
  line_told None left later before now next number has_all has line told read written = tt
  line_told (Some bytes) left later before now next number has_all has line told read
      (text, inl (blank, has_it, none), appended) =
      blank_told bytes left later before now next number has_all has line told
      (subst (λ o. IsLineRead o later line) told.left_is read) blank has_it
      (subst (Appends now next) none appended)
  line_told (Some bytes) left later before now next number has_all has line told read
      (text, inr (address, is, has_it, says), appended) =
      address_told bytes left later before now next number has_all has line text address told
      (subst (λ o. IsLineRead o later line) told.left_is read) is has_it says appended

  -- where no line is left, all are told of
  pub all_told : (input left before now : Option (List ℕ)) (number : ℕ) (has_all : Bool)
      → IfSome input (λ bytes. IsToldTo bytes left before now number has_all)
      → IfSome left (λ bytes. bytes ≡ [])
      → IfSome input (λ bytes. (addresses : List IpAddr) × (last : ℕ)
      × AreSought 1 bytes addresses last []
      × (IsTrue has_all ↔ AllByRecursion (HasIp list) addresses)
      × Writes before now (SpellsEach (IsTold list) addresses))
  all_told None left before now number has_all told ended = tt
  all_told (Some bytes) left before now number has_all told ended =
      let empty : told.remaining ≡ [] =
      subst (λ o. IfSome o (λ bytes. bytes ≡ [])) told.left_is ended in (
        told.addresses,
        number,
        subst (λ each. AreSought 1 bytes each number []) (append-nil told.addresses)
            (told.goes_on [] number []
            (subst (λ rest. AreSought number rest [] number []) (sym empty) (Ended number []))),
        told.all,
        (told.text, told.spelled, told.appended),
      )

  told_before : (bytes : List ℕ) (left before now : Option (List ℕ)) (number : ℕ)
      (has_all : Bool) (error : ListError)
      → (told : IsToldTo bytes left before now number has_all)
      → IsUntold number told.remaining error
      → (addresses : List IpAddr) × (at : ℕ) × (rest : List ℕ)
      × AreSought 1 bytes addresses at rest × IsUntold at rest error
      × Writes before now (SpellsEach (IsTold list) addresses)
  told_before bytes left before now number has_all error told why = (
    told.addresses,
    number,
    told.remaining,
    subst (λ each. AreSought 1 bytes each number told.remaining) (append-nil told.addresses)
        (told.goes_on [] number told.remaining (Ended number told.remaining)),
    why,
    (told.text, told.spelled, told.appended),
  )

  -- a line cannot be read: those before it are told of
  pub unread_told : (input left before now : Option (List ℕ)) (number : ℕ) (has_all : Bool)
      (error : ListError)
      → IfSome input (λ bytes. IsToldTo bytes left before now number has_all)
      → (error ≡ Unread) ⊎ (error ≡ Memory)
      → IfSome input (λ bytes. (addresses : List IpAddr) × (at : ℕ) × (rest : List ℕ)
      × AreSought 1 bytes addresses at rest × IsUntold at rest error
      × Writes before now (SpellsEach (IsTold list) addresses))
  unread_told None left before now number has_all error told unread = tt
  unread_told (Some bytes) left before now number has_all error told unread =
      told_before bytes left before now number has_all error told (inl unread)

  -- and where one is no address
  pub bad_told : (input left later before now : Option (List ℕ)) (number : ℕ) (has_all : Bool)
      (line : List ℕ) (error : ListError)
      → IfSome input (λ bytes. IsToldTo bytes left before now number has_all)
      → IsLineRead left later line → IsNoAddress number line error
      → IfSome input (λ bytes. (addresses : List IpAddr) × (at : ℕ) × (rest : List ℕ)
      × AreSought 1 bytes addresses at rest × IsUntold at rest error
      × Writes before now (SpellsEach (IsTold list) addresses))
  bad_told None left later before now number has_all line error told read bad = tt
  bad_told (Some bytes) left later before now number has_all line error told read bad =
      let (some, later_is, is_line) =
      subst (λ o. IsLineRead o later line) told.left_is read in
      told_before bytes left before now number has_all error told
      (inr (some, subst (λ l. IsNoAddress number l error) is_line bad))
