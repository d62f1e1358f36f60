-- How far a list is read.
use Rattle.std.proofs.Common.{◌≡◌, ◌≢◌, ℕ, suc, ◌+◌, ◌↔◌, ◌⊎◌, Bool, List, [], ◌∷◌, ◌++◌, length, Option, None, Some, IfSome, inl, inr, refl, sym, subst, append_assoc, length-append, arith}
use Rattle.std.proofs.lemmas.List.{append-nil}
use Rattle.std.specs.Io.BufRead.{drop_through, take_through}
use Rattle.address_text.specs.Lines.{Says, SaysAddress}
use Rattle.address_text.specs.declared.family.Family.{Family}
use Rattle.address_text.specs.declared.line.Line.{Line}
use Rattle.line_program.specs.Lines.{IsNextLine}
use Rattle.address_lists.proofs.Lines.{any_append}
use Rattle.address_lists.proofs.Shown.{shown_bad, shown_nothing, shown_says}
use Rattle.address_lists.specs.Lists.{AreAdded, AreGood, AreSaid, Has, HasJust, IsListed, SaysNothingKnown}
use Rattle.address_lists.specs.Lists.AreGood.{Ended, Other, Said}
use Rattle.address_lists.specs.Reading.{HasFaultFrom, IsBad, IsBadLine, IsNextShown}
use Rattle.address_lists.specs.declared.addresses.Addresses.{Addresses}
use Rattle.address_lists.specs.declared.read.BadLines.{BadLines}
use Rattle.address_lists.specs.declared.read.BadLines.TheVariants.{Refused, Skipped}
use Rattle.address_lists.specs.declared.read.ListError.{ListError}
use Rattle.address_lists.specs.declared.read.ListError.TheVariants.{BadLine, Json, Memory, Unread}

-- what the list had, and what the lines say
abbrev pub HasRead : Addresses → Addresses → List Line → Type 0
HasRead old now lines = HasJust now (λ family n. Has old family n ⊎ IsListed family n lines)

-- what the lines say is added
abbrev pub AreRead : (Family → ℕ → Type 0) → (Family → ℕ → Type 0) → List Line → Type 0
AreRead Had IsRead lines = AreAdded Had IsRead (λ family n. IsListed family n lines)

-- one more line is taken in
abbrev pub IsTaken : (Family → ℕ → Type 0) → (Family → ℕ → Type 0) → Line → Type 0
IsTaken Before After line = AreAdded Before After (λ family n. SaysAddress family n line)

read_more : (Had Before After : Family → ℕ → Type 0) (lines : List Line) (line : Line)
    → AreRead Had Before lines → IsTaken Before After line
    → AreRead Had After (lines ++ line ∷ [])
read_more Had Before After lines line read taken family n h =
    let one = read family n h in
    let more = taken family n h in
    let split = any_append (SaysAddress family n) lines (line ∷ []) in (
      λ after. elim (more.0 after) [
        | inl before ↦ elim (one.0 before) [
          | inl had ↦ inl had
          | inr said ↦ inr (split.1 (inl said))
        ]
        | inr says ↦ inr (split.1 (inr (inl says)))
      ],
      λ e. elim e [
        | inl had ↦ more.1 (inl (one.1 (inl had)))
        | inr said ↦ elim (split.0 said) [
          | inl earlier ↦ more.1 (inl (one.1 (inr earlier)))
          | inr last ↦ elim last [ inl says ↦ more.1 (inr says) | inr never ↦ absurd never ]
        ]
      ],
    )

module _ (strict : Bool) (first : ℕ) where
  -- the lines of the input before the one of this number are read, the first of which has this one
  pub record IsReadTo (input : List ℕ) (left : Option (List ℕ)) (number others : ℕ)
      (Had IsRead : Family → ℕ → Type 0) : Type 0 where
    pub remaining : List ℕ
    pub left_is : left ≡ Some remaining
    pub lines : List Line
    pub count : number ≡ length lines + others + first
    pub goes_on : (more : List Line) (later : ℕ) (rest : List ℕ)
        → AreGood strict remaining more later rest
        → AreGood strict input (lines ++ more) (others + later) rest
    pub added : AreRead Had IsRead lines

  pub read_none : (input : Option (List ℕ)) (Had : Family → ℕ → Type 0)
      → IfSome input (λ bytes. IsReadTo bytes input first 0 Had Had)
  read_none None Had = tt
  read_none (Some bytes) Had = record {
    remaining = bytes;
    left_is = refl;
    lines = [];
    count = omega arith;
    goes_on =
        λ more later rest good. let same : later ≡ 0 + later = omega arith in
        subst (λ n. AreGood strict bytes more n rest) same good;
    added = λ family n h. (λ had. inl had, λ e. elim e [ inl had ↦ had | inr never ↦ absurd never ]);
  }

  good_read : (input : List ℕ) (left later : Option (List ℕ)) (number others : ℕ)
      (Had Before After : Family → ℕ → Type 0) (line : Line)
      → (read : IsReadTo input left number others Had Before)
      → IsNextLine (Some read.remaining) later (λ text. Says strict text line)
      → IsTaken Before After line → IsReadTo input later (number + 1) others Had After
  good_read input left later number others Had Before After line read (some, later_is, says)
      taken = record {
        remaining = drop_through 10 read.remaining;
        left_is = later_is;
        lines = read.lines ++ line ∷ [];
        count =
            let count = read.count in
            omega (arith, count, length-append read.lines (line ∷ []));
        goes_on =
            λ more after rest said. subst (λ all. AreGood strict input all (others + after) rest)
            (sym (append_assoc read.lines (line ∷ []) more))
            (read.goes_on (line ∷ more) after rest
            (Said read.remaining line more after rest some says said));
        added = read_more Had Before After read.lines line read.added taken;
      }

  other_read : (input : List ℕ) (left later : Option (List ℕ)) (number others : ℕ)
      (Had IsRead : Family → ℕ → Type 0)
      → (read : IsReadTo input left number others Had IsRead)
      → IsNextLine (Some read.remaining) later (SaysNothingKnown strict)
      → IsReadTo input later (number + 1) (others + 1) Had IsRead
  other_read input left later number others Had IsRead read (some, later_is, says) = record {
    remaining = drop_through 10 read.remaining;
    left_is = later_is;
    lines = read.lines;
    count = let count = read.count in omega (arith, count);
    goes_on =
        λ more after rest said.
        let one : others + suc after ≡ others + 1 + after = omega arith in
        subst (λ all. AreGood strict input (read.lines ++ more) all rest) one
        (read.goes_on more (suc after) rest
        (Other read.remaining more after rest some says said));
    added = read.added;
  }

  pub line_read : (input left later : Option (List ℕ)) (number others : ℕ) (Had : Family → ℕ → Type 0)
      (Before After : Family → ℕ → Type 0) (line : Line)
      → IfSome input (λ bytes. IsReadTo bytes left number others Had Before)
      → IsNextLine left later (λ text. Says strict text line) → IsTaken Before After line
      → IfSome input (λ bytes. IsReadTo bytes later (number + 1) others Had After)
  line_read None left later number others Had Before After line read one taken = tt
  line_read (Some bytes) left later number others Had Before After line read one taken =
      good_read bytes left later number others Had Before After line read
      (subst (λ o. IsNextLine o later (λ text. Says strict text line)) read.left_is one) taken

  pub line_left_out : (input left later : Option (List ℕ)) (number others : ℕ) (Had : Family → ℕ → Type 0)
      (IsRead : Family → ℕ → Type 0)
      → IfSome input (λ bytes. IsReadTo bytes left number others Had IsRead)
      → IsNextLine left later (SaysNothingKnown strict)
      → IfSome input (λ bytes. IsReadTo bytes later (number + 1) (others + 1) Had IsRead)
  line_left_out None left later number others Had IsRead read one = tt
  line_left_out (Some bytes) left later number others Had IsRead read one =
      other_read bytes left later number others Had IsRead read
      (subst (λ o. IsNextLine o later (SaysNothingKnown strict)) read.left_is one)

  -- where no line is left, the whole input is read
  pub all_read : (input left : Option (List ℕ)) (number others : ℕ) (Had : Family → ℕ → Type 0)
      (IsRead : Family → ℕ → Type 0)
      → IfSome input (λ bytes. IsReadTo bytes left number others Had IsRead)
      → IfSome left (λ bytes. bytes ≡ [])
      → IfSome input (λ bytes. (lines : List Line) × AreGood strict bytes lines others []
      × AreRead Had IsRead lines)
  all_read None left number others Had IsRead read ended = tt
  all_read (Some bytes) left number others Had IsRead read ended =
      let empty : read.remaining ≡ [] =
      subst (λ o. IfSome o (λ bytes. bytes ≡ [])) read.left_is ended in
      let none : others + 0 ≡ others = omega arith in (
        read.lines,
        subst (λ n. AreGood strict bytes read.lines n []) none
            (subst (λ all. AreGood strict bytes all (others + 0) []) (append-nil read.lines)
            (read.goes_on [] 0 []
            (subst (λ rest. AreGood strict rest [] 0 []) (sym empty) (Ended [])))),
        read.added,
      )

  -- and where what waits is added too, the list has all
  pub all_added : (input : Option (List ℕ)) (others : ℕ) (old next : Addresses)
      (Before After : Family → ℕ → Type 0)
      → ((family : Family) (n : ℕ) → Before family n ↔ Has old family n)
      → IfSome input (λ bytes. (lines : List Line) × AreGood strict bytes lines others []
      × AreRead Before After lines)
      → HasJust next After
      → IfSome input (λ bytes. (lines : List Line) × AreGood strict bytes lines others []
      × HasRead old next lines)
  all_added None others old next Before After same read added = tt
  all_added (Some bytes) others old next Before After same (lines, good, read) added = (
    lines,
    good,
    λ family n h. let all = added family n h in
        let one = read family n h in
        let was = same family n in (
          λ has. elim (one.0 (all.0 has)) [
            | inl before ↦ inl (was.0 before)
            | inr said ↦ inr said
          ],
          λ e. elim e [
            | inl had ↦ all.1 (one.1 (inl (was.1 had)))
            | inr said ↦ all.1 (one.1 (inr said))
          ],
        ),
  )

  fault_at : (bytes : List ℕ) (left : Option (List ℕ)) (number : ℕ) (Had : Family → ℕ → Type 0)
      (IsRead : Family → ℕ → Type 0) (error : ListError)
      → (read : IsReadTo bytes left number 0 Had IsRead)
      → IsBad strict read.remaining number error → HasFaultFrom strict first bytes error
  fault_at bytes left number Had IsRead error read bad =
      let count = read.count in
      let place : number ≡ length read.lines + first = omega (arith, count) in (
        read.lines,
        read.remaining,
        subst (λ all. AreSaid strict bytes all read.remaining) (append-nil read.lines)
            (read.goes_on [] 0 read.remaining (Ended read.remaining)),
        subst (λ k. IsBad strict read.remaining k error) place bad,
      )

  pub bad_line : (bytes text : List ℕ) (number : ℕ) (error : ListError) → bytes ≢ []
      → text ≡ take_through 10 bytes → IsBadLine strict text number error
      → IsBad strict bytes number error
  bad_line bytes text number (BadLine line column expected found) some is bad =
      (some, subst (λ t. IsBadLine strict t number (BadLine line column expected found)) is bad)
  bad_line bytes text number Unread some is bad = absurd bad
  bad_line bytes text number Memory some is bad = absurd bad
  bad_line bytes text number (Json fault) some is bad = absurd bad

  -- the line that is read says nothing that is known
  pub bad_found : (left later : Option (List ℕ)) (text seen : List ℕ) (number : ℕ)
      (error : ListError) → seen ≡ text
      → IfSome left (λ bytes. IsNextShown bytes later text)
      → IsBadLine strict seen number error → IfSome left (λ bytes. IsBad strict bytes number error)
  bad_found None later text seen number error same read bad = tt
  bad_found (Some bytes) later text seen number error same (some, later_is, shown) bad =
      bad_line bytes (take_through 10 bytes) number error some refl
      (shown_bad strict text (take_through 10 bytes) number error shown
      (subst (λ t. IsBadLine strict t number error) same bad))

  pub good_found : (left later : Option (List ℕ)) (text seen : List ℕ) (line : Line)
      → seen ≡ text → IfSome left (λ bytes. IsNextShown bytes later text) → Says strict seen line
      → IsNextLine left later (λ t. Says strict t line)
  good_found None later text seen line same read says = tt
  good_found (Some bytes) later text seen line same (some, later_is, shown) says = (
    some,
    later_is,
    shown_says strict text (take_through 10 bytes) line shown
        (subst (λ t. Says strict t line) same says),
  )

  pub nothing_found : (left later : Option (List ℕ)) (text seen : List ℕ) → seen ≡ text
      → IfSome left (λ bytes. IsNextShown bytes later text) → SaysNothingKnown strict seen
      → IsNextLine left later (SaysNothingKnown strict)
  nothing_found None later text seen same read nothing = tt
  nothing_found (Some bytes) later text seen same (some, later_is, shown) nothing = (
    some,
    later_is,
    shown_nothing strict text (take_through 10 bytes) shown
        (subst (SaysNothingKnown strict) same nothing),
  )

  -- all lines before a bad one were good
  pub fault_read : (input left : Option (List ℕ)) (number others : ℕ) (Had : Family → ℕ → Type 0)
      (IsRead : Family → ℕ → Type 0) (error : ListError) → others ≡ 0
      → IfSome input (λ bytes. IsReadTo bytes left number others Had IsRead)
      → IfSome left (λ bytes. IsBad strict bytes number error)
      → IfSome input (λ bytes. HasFaultFrom strict first bytes error)
  fault_read None left number others Had IsRead error none read bad = tt
  fault_read (Some bytes) left number others Had IsRead error none read bad =
      fault_at bytes left number Had IsRead error
      (subst (λ n. IsReadTo bytes left number n Had IsRead) none read)
      (subst (λ o. IfSome o (λ bytes. IsBad strict bytes number error))
      (subst (λ n. IsReadTo bytes left number n Had IsRead) none read).left_is bad)

  -- without a bad line, nothing is said of the input
  pub other_fault : (input : Option (List ℕ)) (error : ListError)
      → (error ≡ Unread) ⊎ (error ≡ Memory) → IfSome input (λ bytes. HasFaultFrom strict first bytes error)
  other_fault None error other = tt
  other_fault (Some bytes) error (inl unread) =
      subst (λ e. HasFaultFrom strict first bytes e) (sym unread) ([], bytes, Ended bytes, tt)
  other_fault (Some bytes) error (inr memory) =
      subst (λ e. HasFaultFrom strict first bytes e) (sym memory) ([], bytes, Ended bytes, tt)

  -- all lines before a bad one were good, where bad ones are not left out
  pub fault_found : (bad_lines : BadLines) (input left : Option (List ℕ)) (number others : ℕ)
      (Had IsRead : Family → ℕ → Type 0) (error : ListError)
      → (bad_lines ≡ Refused → others ≡ 0)
      → (bad_lines ≡ Skipped → (error ≡ Unread) ⊎ (error ≡ Memory))
      → IfSome input (λ bytes. IsReadTo bytes left number others Had IsRead)
      → IfSome left (λ bytes. IsBad strict bytes number error)
      → IfSome input (λ bytes. HasFaultFrom strict first bytes error)
  fault_found Refused input left number others Had IsRead error none unread read bad =
      fault_read input left number others Had IsRead error (none refl) read bad
  fault_found Skipped input left number others Had IsRead error none unread read bad =
      other_fault input error (unread refl)
