-- Blank lines at the start of a list.
use Rattle.std.proofs.Common.{◌≡◌, ◌≢◌, ◌↔◌, ℕ, ◌+◌, Bool, true, false, List, [], ◌∷◌, ◌++◌, length, Option, None, Some, IfSome, inl, inr, refl, ap, sym, subst, ◌∙◌, append_assoc, arith}
use Rattle.std.proofs.lemmas.Bool.{eqb-true}
use Rattle.std.specs.Char.{is_ascii_whitespace}
use Rattle.std.specs.Io.BufRead.{drop_through, take_through}
use Rattle.std.specs.List.{before_first}
use Rattle.address_text.specs.Lines.{Says, from_word, is_hash, trimmed}
use Rattle.address_text.proofs.Faults.{blank_first as white_first, blank_kept as kept_first}
use Rattle.address_text.specs.declared.family.Family.{Family}
use Rattle.address_text.specs.declared.line.Line.{Line}
use Rattle.address_text.specs.declared.line.Line.TheVariants.{Nothing}
use Rattle.address_lists.specs.Files.{AreBlank, IsStart, is_blank, mark}
use Rattle.address_lists.specs.Files.AreBlank.{NoLine, OneMore}
use Rattle.address_lists.specs.Lists.{AreGood, IsListed}
use Rattle.address_lists.specs.Lists.AreGood.{Said}
use Rattle.address_lists.specs.Reading.{HasFaultFrom, IsBad, IsNextShown}
use Rattle.address_lists.proofs.Shown.{shown_blank}
use Rattle.address_lists.specs.declared.file.Start.{Start}
use Rattle.address_lists.specs.declared.read.ListError.{ListError}

-- a line and what follows it are the text
pub through_line : (xs : List ℕ) → take_through 10 xs ++ drop_through 10 xs ≡ xs
through_line [] = refl
through_line (x ∷ xs) = grind (arith, through_line xs)

mark_behind : (xs ys : List ℕ) → mark xs ≡ None → mark (xs ++ ys) ≡ mark ys
mark_behind [] ys none = refl
mark_behind (x ∷ xs) ys none = grind (arith, mark_behind xs ys)

mark_first : (xs ys : List ℕ) (byte : ℕ) → mark xs ≡ Some byte → mark (xs ++ ys) ≡ Some byte
mark_first [] ys byte some = cc
mark_first (x ∷ xs) ys byte some = grind (arith, mark_first xs ys byte)

blank_is_white : (x : ℕ) → is_blank x ≡ true → is_ascii_whitespace x ≡ true
blank_is_white x blank = grind arith

blank_is_no_hash : (x : ℕ) → is_blank x ≡ true → is_hash x ≡ false
blank_is_no_hash x blank = grind (arith, eqb-true)

blank_first : (x : ℕ) (xs : List ℕ) → mark (x ∷ xs) ≡ None → is_blank x ≡ true
blank_first x xs none = grind arith

blank_later : (x : ℕ) (xs : List ℕ) → mark (x ∷ xs) ≡ None → mark xs ≡ None
blank_later x xs none = grind arith

no_word : (line : List ℕ) → mark line ≡ None → from_word (before_first is_hash line) ≡ []
no_word [] none = refl
no_word (x ∷ xs) none =
    let blank = blank_first x xs none in
    ap from_word (kept_first x xs (blank_is_no_hash x blank))
    ∙ white_first x (before_first is_hash xs) (blank_is_white x blank)
    ∙ no_word xs (blank_later x xs none)

trimmed_none : (text : List ℕ) → from_word text ≡ [] → trimmed text ≡ []
trimmed_none text none = rw none refl

-- a blank line says nothing
says_nothing : (strict : Bool) (line : List ℕ) → mark line ≡ None → Says strict line Nothing
says_nothing strict line none = trimmed_none (before_first is_hash line) (no_word line none)

-- the text is the blank lines and what follows them
pub blanks_before : (input blanks rest : List ℕ) (count : ℕ) → AreBlank input blanks count rest
    → blanks ++ rest ≡ input
blanks_before input _ _ _ (NoLine _) = refl
blanks_before input _ _ _ (OneMore _ blanks count rest before some blank) =
    append_assoc blanks (take_through 10 rest) (drop_through 10 rest)
    ∙ ap (λ r. blanks ++ r) (through_line rest) ∙ blanks_before input blanks rest count before

mark_after : (xs : List ℕ) → mark (take_through 10 xs) ≡ None
    → mark xs ≡ mark (drop_through 10 xs)
mark_after xs none =
    ap mark (sym (through_line xs))
    ∙ mark_behind (take_through 10 xs) (drop_through 10 xs) none

-- the mark of the first line that is not blank is that of the rest
pub mark_of_first : (xs : List ℕ) (byte : ℕ) → mark (take_through 10 xs) ≡ Some byte
    → mark xs ≡ Some byte
mark_of_first xs byte some =
    ap mark (sym (through_line xs))
    ∙ mark_first (take_through 10 xs) (drop_through 10 xs) byte some

pub mark_of_rest : (input blanks rest : List ℕ) (count : ℕ) → AreBlank input blanks count rest
    → mark input ≡ mark rest
mark_of_rest input _ _ _ (NoLine _) = refl
mark_of_rest input _ _ _ (OneMore _ blanks count rest before some blank) =
    mark_of_rest input blanks rest count before ∙ mark_after rest blank

-- the lines of the input before the one of this number are blank
abbrev pub IsBlankTo : List ℕ → Option (List ℕ) → List ℕ → ℕ → Type 0
IsBlankTo input left blanks number = (rest : List ℕ) × (count : ℕ) × (left ≡ Some rest)
    × AreBlank input blanks count rest × (number ≡ count + 1)

pub blank_none : (input : Option (List ℕ)) (blanks : List ℕ) → blanks ≡ []
    → IfSome input (λ bytes. IsBlankTo bytes input blanks 1)
blank_none None blanks none = tt
blank_none (Some bytes) blanks none =
    (bytes, 0, refl, subst (λ b. AreBlank bytes b 0 bytes) (sym none) (NoLine bytes), refl)

-- what a call that read a line gave
abbrev pub IsLineRead : Option (List ℕ) → Option (List ℕ) → List ℕ → Type 0
IsLineRead left later line = IfSome left (λ rest. IsNextShown rest later line)

one_blank : (bytes rest blanks line next : List ℕ) (count number : ℕ)
    (later : Option (List ℕ)) → AreBlank bytes blanks count rest → number ≡ count + 1
    → IsLineRead (Some rest) later line → mark line ≡ None → next ≡ blanks ++ line
    → IsBlankTo bytes later next (number + 1)
one_blank bytes rest blanks line next count number later before place (some, later_is, shown) blank
    more =
    let is = shown_blank line (take_through 10 rest) shown blank in
    let kept : blanks ++ take_through 10 rest ≡ next = ap (λ l. blanks ++ l) (sym is) ∙ sym more in (
      drop_through 10 rest,
      count + 1,
      later_is,
      subst (λ b. AreBlank bytes b (count + 1) (drop_through 10 rest)) kept
          (OneMore bytes blanks count rest before some (ap mark (sym is) ∙ blank)),
      ap (λ n. n + 1) place,
    )

pub blank_more : (input left later : Option (List ℕ)) (blanks line next : List ℕ) (number : ℕ)
    → IfSome input (λ bytes. IsBlankTo bytes left blanks number) → IsLineRead left later line
    → mark line ≡ None → next ≡ blanks ++ line
    → IfSome input (λ bytes. IsBlankTo bytes later next (number + 1))
blank_more None left later blanks line next number so_far read blank more = tt
blank_more (Some bytes) left later blanks line next number (rest, count, left_is, before, place)
    read blank more =
    one_blank bytes rest blanks line next count number later before place
    (subst (λ l. IsLineRead l later line) left_is read) blank more

pub blank_to_end : (input left later : Option (List ℕ)) (blanks : List ℕ) (number : ℕ)
    → IfSome input (λ bytes. IsBlankTo bytes left blanks number)
    → IfSome left (λ rest. (rest ≡ []) × (later ≡ Some []))
    → IfSome input (λ bytes. IsStart bytes None later)
blank_to_end None left later blanks number so_far ended = tt
blank_to_end (Some bytes) left later blanks number (rest, count, left_is, before, place) ended = (
  blanks,
  count,
  subst (AreBlank bytes blanks count)
      (subst (λ l. IfSome l (λ r. (r ≡ []) × (later ≡ Some []))) left_is ended).0 before,
)

pub start_found : (input left later : Option (List ℕ)) (start : Start)
    → IfSome input (λ bytes. IsBlankTo bytes left start.blanks.items start.number)
    → IsLineRead left later start.line.items → mark start.line.items ≡ Some start.mark
    → IfSome input (λ bytes. IsStart bytes (Some start) later)
start_found None left later start so_far read marked = tt
start_found (Some bytes) left later start (rest, count, left_is, before, place) read marked =
    let next = subst (λ l. IsLineRead l later start.line.items) left_is read in (
      rest,
      count,
      before,
      place,
      (next.0, next.2, next.1),
      marked,
    )

-- the lines say the same addresses
abbrev pub SaySame : List Line → List Line → Type 0
SaySame lines others = (family : Family) (n : ℕ)
    → IsListed family n lines ↔ IsListed family n others

module _ (strict : Bool) where
  -- blank lines change nothing that is said
  pub good_behind : (input blanks rest : List ℕ) (count : ℕ) (lines : List Line) (others : ℕ)
      → AreBlank input blanks count rest → AreGood strict rest lines others []
      → (all : List Line) × AreGood strict input all others [] × SaySame lines all
  good_behind input _ _ _ lines others (NoLine _) good =
      (lines, good, λ family n. (λ said. said, λ said. said))
  good_behind input _ _ _ lines others (OneMore _ blanks count rest before some blank) good =
      let (all, all_good, same) =
      good_behind input blanks rest count (Nothing ∷ lines) others before
      (Said rest Nothing lines others [] some
      (says_nothing strict (take_through 10 rest) blank) good) in (
        all,
        all_good,
        λ family n. let one = same family n in (
          λ said. one.0 (inr said),
          λ said. elim (one.1 said) [ inl never ↦ absurd never | inr later ↦ later ],
        ),
      )

  -- a line that says something is counted before a bad one
  pub fault_after : (first : ℕ) (rest : List ℕ) (line : Line) (error : ListError) → rest ≢ []
      → Says strict (take_through 10 rest) line
      → HasFaultFrom strict (first + 1) (drop_through 10 rest) error
      → HasFaultFrom strict first rest error
  fault_after first rest line error some says (lines, end, said, bad) =
      let place : length lines + (first + 1) ≡ length (line ∷ lines) + first = omega arith in (
        line ∷ lines,
        end,
        Said rest line lines 0 end some says said,
        subst (λ k. IsBad strict end k error) place bad,
      )

  -- and they are counted
  pub fault_behind : (input blanks rest : List ℕ) (count : ℕ) (error : ListError)
      → AreBlank input blanks count rest → HasFaultFrom strict (count + 1) rest error
      → HasFaultFrom strict 1 input error
  fault_behind input _ _ _ error (NoLine _) fault = fault
  fault_behind input _ _ _ error (OneMore _ blanks count rest before some blank) fault =
      fault_behind input blanks rest count error before
      (fault_after (count + 1) rest Nothing error some
      (says_nothing strict (take_through 10 rest) blank) fault)
