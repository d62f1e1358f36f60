-- Lines of which a start alone is read, since it tells all that counts.
use Rattle.std.proofs.Common.{◌≡◌, ◌≢◌, ◌==◌, ℕ, ◌-◌, Bool, true, false, cond, List, [], ◌∷◌, ◌++◌, length, drop, take, Option, None, Some, IfSome, ap, inl, inr, refl, sym, subst, ◌∙◌, append_assoc, length-append, arith}
use Rattle.std.proofs.Transfers.{starts_with_trans}
use Rattle.std.proofs.Math.Seq.{take-nil}
use Rattle.std.proofs.lemmas.List.{append-nil, take-append-drop}
use Rattle.std.specs.Io.{StartsWith}
use Rattle.std.specs.Io.BufRead.{drop_through, take_through}
use Rattle.std.specs.Io.KnownBytes.{Keeps}
use Rattle.std.specs.List.{list_all, list_any}
use Rattle.address_text.specs.Faults.{IsFault}
use Rattle.address_text.specs.Lines.{Says, content}
use Rattle.address_text.specs.Starts.{HasOneFault, IsBadStart, OpensComment, ends_text, is_plain}
use Rattle.address_text.proofs.Comments.{fault_kept, found_kept, later_none, says_before, says_more}
use Rattle.address_text.proofs.Starts.{plain_later}
use Rattle.address_text.specs.declared.fault.Expected.{Expected}
use Rattle.address_text.specs.declared.fault.Expected.TheVariants.{Address}
use Rattle.address_text.specs.declared.line.Line.{Line}
use Rattle.address_lists.specs.Files.{is_blank, mark}
use Rattle.address_lists.specs.Lists.{SaysNothingKnown}
use Rattle.address_lists.specs.Reading.{IsBadLine, IsNextShown, IsShown, ShowsEach}
use Rattle.address_lists.specs.declared.read.ListError.{ListError}
use Rattle.address_lists.specs.declared.read.ListError.TheVariants.{BadLine, Json, Memory, Unread}

no_end : (x : ℕ) (xs : List ℕ) → list_all is_plain (x ∷ xs) ≡ true → (x == 10) ≡ false
no_end x xs plain = grind arith

no_object : (x : ℕ) (xs : List ℕ) → list_all is_plain (x ∷ xs) ≡ true → (x == 123) ≡ false
no_object x xs plain = grind arith

marked : (x : ℕ) (xs ys : List ℕ) → list_all is_plain (x ∷ xs) ≡ true
    → mark (x ∷ ys) ≡ Some x
marked x xs ys plain = grind arith

through_first : (x : ℕ) (xs : List ℕ) → (x == 10) ≡ false
    → take_through 10 (x ∷ xs) ≡ x ∷ take_through 10 xs
through_first x xs other = grind arith

-- no line ends in a start
through_plain : (xs ys : List ℕ) → list_all is_plain xs ≡ true
    → take_through 10 (xs ++ ys) ≡ xs ++ take_through 10 ys
through_plain [] ys plain = refl
through_plain (x ∷ xs) ys plain =
    through_first x (xs ++ ys) (no_end x xs plain)
    ∙ ap (λ rest. x ∷ rest) (through_plain xs ys (plain_later x xs plain))

-- and none in a start that opens a comment
not_ended : (x : ℕ) (xs : List ℕ) → list_any ends_text (x ∷ xs) ≡ false → (x == 10) ≡ false
not_ended x xs none = grind arith

through_comment : (text rest : List ℕ) → list_any ends_text text ≡ false
    → take_through 10 (text ++ 35 ∷ rest) ≡ text ++ 35 ∷ take_through 10 rest
through_comment [] rest none = through_first 35 rest refl
through_comment (x ∷ xs) rest none =
    through_first x (xs ++ 35 ∷ rest) (not_ended x xs none)
    ∙ ap (λ t. x ∷ t) (through_comment xs rest (later_none x xs none))

with_sign : (start rest : List ℕ) → (opens : OpensComment start)
    → start ++ rest ≡ opens.0 ++ 35 ∷ rest
with_sign start rest (text, is, none) =
    ap (λ t. t ++ rest) is ∙ append_assoc text (35 ∷ []) rest

has_sign : (text : List ℕ) → text ++ 35 ∷ [] ≢ []
has_sign text none =
    let size = length-append text (35 ∷ []) in
    let zero = ap length none in omega (arith, size, zero)

pub bad_shows : (start : List ℕ) → start ≢ [] → list_all is_plain start ≡ true
    → HasOneFault start → IsBadStart start → ShowsEach start
bad_shows start some plain one bad = (
  some,
  λ rest. inr (take_through 10 rest, through_plain start rest plain, inl (some, plain, one, bad)),
)

pub comment_shows : (start : List ℕ) → OpensComment start → ShowsEach start
comment_shows start opens = (
  λ none. has_sign opens.0 (sym opens.1 ∙ none),
  λ rest. inr (
    take_through 10 rest,
    ap (take_through 10) (with_sign start rest opens)
        ∙ through_comment opens.0 rest opens.2
        ∙ sym (with_sign start (take_through 10 rest) opens),
    inr opens,
  ),
)

parts : (bytes start : List ℕ) → StartsWith bytes start → bytes ≡ start ++ drop (length start) bytes
parts bytes start starts =
    sym (take-append-drop (length start) bytes)
    ∙ ap (λ first. first ++ drop (length start) bytes) starts

module _ (start text : List ℕ) (first : StartsWith start text) (shows : ShowsEach text) where
  shown_start : (bytes line : List ℕ) (later : Option (List ℕ)) → StartsWith bytes text
      → line ≡ text → later ≡ Some (drop_through 10 bytes) → IsNextShown bytes later line
  shown_start bytes line later starts same left = (
    λ none. shows.0 (sym starts ∙ ap (take (length text)) none ∙ take-nil (length text)),
    left,
    subst (λ t. IsShown t (take_through 10 bytes)) (sym same)
        (subst (λ b. IsShown text (take_through 10 b)) (sym (parts bytes text starts))
        (shows.1 (drop (length text) bytes))),
  )

  -- the start of a line is read, and the rest passed over
  pub start_read : (old mid new : Option (List ℕ)) (line : List ℕ)
      → IfSome old (λ bytes. StartsWith bytes start) → Keeps old mid → line ≡ text
      → IfSome mid (λ bytes. new ≡ Some (drop_through 10 bytes))
      → IfSome old (λ bytes. IsNextShown bytes new line)
  start_read None mid new line starts keeps same left = tt
  start_read (Some bytes) None new line starts keeps same left = absurd keeps
  start_read (Some bytes) (Some held) new line starts keeps same left =
      shown_start bytes line new (starts_with_trans bytes start text starts first) same
      (subst (λ b. new ≡ Some (drop_through 10 b)) keeps left)

module _ (strict : Bool) (text line : List ℕ) where
  pub shown_says : (said : Line) → IsShown text line → Says strict text said
      → Says strict line said
  shown_says said (inl same) says = subst (λ t. Says strict t said) same says
  shown_says said (inr (rest, is, inl (some, plain, one, bad))) says =
      let none = bad [] in
      absurd (none.nothing strict said (subst (λ t. Says strict t said) (sym (append-nil text)) says))
  shown_says said (inr (rest, is, inr opens)) says =
      subst (λ t. Says strict t said) (sym is) (says_more text rest opens strict said says)

  pub shown_nothing : IsShown text line → SaysNothingKnown strict text
      → SaysNothingKnown strict line
  shown_nothing (inl same) nothing = subst (SaysNothingKnown strict) same nothing
  shown_nothing (inr (rest, is, inl (some, plain, one, bad))) nothing = λ said says.
      let it = bad rest in it.nothing strict said (subst (λ t. Says strict t said) is says)
  shown_nothing (inr (rest, is, inr opens)) nothing = λ said says.
      nothing said
      (says_before text rest opens strict said (subst (λ t. Says strict t said) is says))

  -- the fault of a start is that of its line
  bad_whole : (number : ℕ) (found : List ℕ) (rest : List ℕ) → line ≡ text ++ rest
      → IsBadStart text → found ≡ take 40 (content text)
      → IsBadLine strict line number (BadLine number 1 Address found)
  bad_whole number found rest is bad at =
      let it = bad rest in
      let none = bad [] in
      let here : take 40 (content text) ≡ take 40 text =
      ap (λ t. take 40 (content t)) (sym (append-nil text)) ∙ none.found in (
        refl,
        omega arith,
        omega arith,
        subst (λ t. IsFault t 1 Address) (sym is) it.fault,
        at ∙ here ∙ sym it.found ∙ ap (λ t. take 40 (content t)) (sym is),
        λ said says. it.nothing strict said (subst (λ t. Says strict t said) is says),
      )

  comment_whole : (number other column : ℕ) (expected : Expected) (found rest : List ℕ)
      → (is : line ≡ text ++ rest) → OpensComment text
      → IsBadLine strict text number (BadLine other column expected found)
      → IsBadLine strict line number (BadLine other column expected found)
  comment_whole number other column expected found rest is opens
      (same, low, high, fault, at, nothing) =
      let more = ap length is ∙ length-append text rest in (
        same,
        low,
        omega (arith, high, more),
        subst (λ t. IsFault t column expected) (sym is)
            (fault_kept text rest opens column expected fault),
        at ∙ sym (ap (λ t. take 40 (content (drop (column - 1) t))) is
            ∙ ap (take 40) (found_kept text rest opens column expected fault)),
        shown_nothing (inr (rest, is, inr opens)) nothing,
      )

  pub shown_bad : (number : ℕ) (error : ListError) → IsShown text line
      → IsBadLine strict text number error → IsBadLine strict line number error
  shown_bad number error (inl same) bad = subst (λ t. IsBadLine strict t number error) same bad
  shown_bad number Unread (inr shown) bad = absurd bad
  shown_bad number Memory (inr shown) bad = absurd bad
  shown_bad number (Json fault) (inr shown) bad = absurd bad
  shown_bad number (BadLine other column expected found)
      (inr (rest, is, inl (some, plain, one, hopeless))) (same, low, high, fault, at, nothing) =
      let (first, address) = one column expected fault in
      let here : found ≡ take 40 (content text) =
      at ∙ ap (λ c. take 40 (content (drop (c - 1) text))) first in
      subst (λ n. IsBadLine strict line number (BadLine n column expected found)) (sym same)
      (subst (λ c. IsBadLine strict line number (BadLine number c expected found)) (sym first)
      (subst (λ e. IsBadLine strict line number (BadLine number 1 e found)) (sym address)
      (bad_whole number found rest is hopeless here)))
  shown_bad number (BadLine other column expected found) (inr (rest, is, inr opens)) bad =
      comment_whole number other column expected found rest is opens bad

-- the first byte that is not blank, up to a comment sign
abbrev first_mark : List ℕ → ℕ
first_mark [] = 35
first_mark (x ∷ xs) = cond (is_blank x) (first_mark xs) x

mark_step : (x : ℕ) (xs rest : List ℕ) (b : Bool) → is_blank x ≡ b
    → mark (xs ++ 35 ∷ rest) ≡ Some (first_mark xs)
    → mark (x ∷ xs ++ 35 ∷ rest) ≡ Some (first_mark (x ∷ xs))
mark_step x xs rest true is later = grind arith
mark_step x xs rest false is later = grind arith

mark_opened : (text rest : List ℕ) → mark (text ++ 35 ∷ rest) ≡ Some (first_mark text)
mark_opened [] rest = refl
mark_opened (x ∷ xs) rest = mark_step x xs rest (is_blank x) refl (mark_opened xs rest)

not_object : (text : List ℕ) → list_any ends_text text ≡ false → (first_mark text == 123) ≡ false
not_object [] none = refl
not_object (x ∷ xs) none = grind (arith, not_object xs (later_none x xs none))

comment_mark : (text rest : List ℕ) → (opens : OpensComment text)
    → mark (text ++ rest) ≡ Some (first_mark opens.0)
comment_mark text rest opens = ap mark (with_sign text rest opens) ∙ mark_opened opens.0 rest

mark_of_comment : (text : List ℕ) → (opens : OpensComment text)
    → mark text ≡ Some (first_mark opens.0)
mark_of_comment text opens = ap mark (sym (append-nil text)) ∙ comment_mark text [] opens

-- a blank line is read whole, and so is one with which JSON begins
blank_start : (text : List ℕ) → text ≢ [] → list_all is_plain text ≡ true → mark text ≢ None
blank_start [] some plain none = some refl
blank_start (x ∷ xs) some plain none = let other = marked x xs xs plain in cc

pub shown_blank : (text line : List ℕ) → IsShown text line → mark text ≡ None → text ≡ line
shown_blank text line (inl same) none = same
shown_blank text line (inr (rest, is, inl (some, plain, one, bad))) none =
    absurd (blank_start text some plain none)
shown_blank text line (inr (rest, is, inr opens)) none =
    let other = mark_of_comment text opens in cc

object_start : (text : List ℕ) (byte : ℕ) → text ≢ [] → list_all is_plain text ≡ true
    → mark text ≡ Some byte → (byte == 123) ≢ true
object_start [] byte some plain at object = some refl
object_start (x ∷ xs) byte some plain at object =
    let first = marked x xs xs plain in
    let other = no_object x xs plain in cc

pub shown_object : (text line : List ℕ) (byte : ℕ) → IsShown text line → mark text ≡ Some byte
    → (byte == 123) ≡ true → text ≡ line
shown_object text line byte (inl same) at object = same
shown_object text line byte (inr (rest, is, inl (some, plain, one, bad))) at object =
    absurd (object_start text byte some plain at object)
shown_object text line byte (inr (rest, is, inr opens)) at object =
    let first = mark_of_comment text opens in
    let other = not_object opens.0 opens.2 in cc

start_mark : (text rest : List ℕ) → text ≢ [] → list_all is_plain text ≡ true
    → mark (text ++ rest) ≡ mark text
start_mark [] rest some plain = absurd (some refl)
start_mark (x ∷ xs) rest some plain =
    marked x xs (xs ++ rest) plain ∙ sym (marked x xs xs plain)

pub shown_mark : (text line : List ℕ) → IsShown text line → mark line ≡ mark text
shown_mark text line (inl same) = ap mark (sym same)
shown_mark text line (inr (rest, is, inl (some, plain, one, bad))) =
    ap mark is ∙ start_mark text rest some plain
shown_mark text line (inr (rest, is, inr opens)) =
    ap mark is ∙ comment_mark text rest opens ∙ sym (mark_of_comment text opens)
