-- Lines that have their comment sign: what they say, and where they are wrong, comes before it.
use Rattle.std.proofs.Common.{◌≡◌, ℕ, suc, zero, ◌+◌, ◌-◌, ◌≤◌, Bool, true, false, List, [], ◌∷◌, ◌++◌, Some, length, drop, take, get_or, position, ap, inl, inr, refl, sym, subst, ◌∙◌, append_assoc, length-append, arith}
use Rattle.std.proofs.lemmas.List.{length-drop, length-take, take-append-drop, take_more}
use Rattle.std.proofs.lemmas.List.Quantifiers.{position-Some}
use Rattle.std.proofs.lemmas.List.Sums.{prefix_len-le-length}
use Rattle.std.specs.Char.{is_ascii_whitespace}
use Rattle.std.specs.Io.{StartsWith}
use Rattle.std.specs.List.{after_first, before_first, list_any, position_or_len, suffix_len}
use Rattle.std.specs.Str.{IsUtf8}
use Rattle.address_text.proofs.Faults.{blank_kept}
use Rattle.address_text.specs.Faults.{IsExpected, IsFault, IsWrongPrefix, IsWrongRange, blank_count}
use Rattle.address_text.specs.Lines.{HasByte, IsSpan, Says, content, from_word, is_dash, is_hash, is_slash, trimmed}
use Rattle.address_text.specs.Starts.{OpensComment, ends_text}
use Rattle.address_text.specs.declared.fault.Expected.{Expected}
use Rattle.address_text.specs.declared.fault.Expected.TheVariants.{Address, Last, Length, Mask, ZeroBits}
use Rattle.address_text.specs.declared.line.Line.{Line}
use Rattle.address_text.specs.declared.line.Line.TheVariants.{Nothing, Addresses}

first_none : (x : ℕ) (xs : List ℕ) → list_any ends_text (x ∷ xs) ≡ false → is_hash x ≡ false
first_none x xs none = grind arith

pub later_none : (x : ℕ) (xs : List ℕ) → list_any ends_text (x ∷ xs) ≡ false
    → list_any ends_text xs ≡ false
later_none x xs none = grind arith

before_sign : (text rest : List ℕ) → list_any ends_text text ≡ false
    → before_first is_hash (text ++ 35 ∷ rest) ≡ text
before_sign [] rest none = refl
before_sign (x ∷ xs) rest none =
    blank_kept x (xs ++ 35 ∷ rest) (first_none x xs none)
    ∙ ap (λ t. x ∷ t) (before_sign xs rest (later_none x xs none))

blanks_first : (x : ℕ) (xs ys : List ℕ) (b : Bool) → is_ascii_whitespace x ≡ b
    → blank_count xs ≡ blank_count ys → blank_count (x ∷ xs) ≡ blank_count (x ∷ ys)
blanks_first x xs ys true blank same = grind arith
blanks_first x xs ys false blank same = grind arith

blanks_before : (text rest : List ℕ) → blank_count (text ++ 35 ∷ rest) ≡ blank_count text
blanks_before [] rest = refl
blanks_before (x ∷ xs) rest =
    blanks_first x (xs ++ 35 ∷ rest) xs (is_ascii_whitespace x) refl (blanks_before xs rest)

drop_before : (n : ℕ) (text rest : List ℕ) → n ≤ length text
    → drop n (text ++ 35 ∷ rest) ≡ drop n text ++ 35 ∷ rest
drop_before zero text rest within = refl
drop_before (suc n) [] rest within = absurd (omega (arith, within))
drop_before (suc n) (x ∷ xs) rest within = drop_before n xs rest (omega (arith, within))

none_behind : (n : ℕ) (text : List ℕ) → list_any ends_text text ≡ false
    → list_any ends_text (drop n text) ≡ false
none_behind zero text none = none
none_behind (suc n) [] none = refl
none_behind (suc n) (x ∷ xs) none = none_behind n xs (later_none x xs none)

content_from : (n : ℕ) (text rest : List ℕ) → n ≤ length text → list_any ends_text text ≡ false
    → content (drop n (text ++ 35 ∷ rest)) ≡ trimmed (drop n text)
content_from n text rest within none =
    ap content (drop_before n text rest within)
    ∙ ap trimmed (before_sign (drop n text) rest (none_behind n text none))

front_within : (test : ℕ → Bool) (text : List ℕ) → HasByte test text
    → length (before_first test text) + 1 ≤ length text
front_within test text has =
    let size = length-take (position_or_len test text) text in grind arith

prefix_within : (text : List ℕ) (expected : Expected) (place : ℕ) → HasByte is_slash text
    → IsWrongPrefix (before_first is_slash text) (after_first is_slash text) expected place
    → place ≤ length text
prefix_within text Address place slash (at, none) = omega (arith, at)
prefix_within text (Length most) place slash (at, lacks) =
    let front = front_within is_slash text slash in omega (arith, at, front)
prefix_within text Mask place slash (at, lacks) =
    let front = front_within is_slash text slash in omega (arith, at, front)
prefix_within text ZeroBits place slash (at, has) = omega (arith, at)
prefix_within text Last place slash never = absurd never

parts_within : (test : ℕ → Bool) (text : List ℕ) → HasByte test text
    → length (before_first test text) + 1 + length (after_first test text) ≤ length text
parts_within test text has =
    let front = length-take (position_or_len test text) text in
    let back = length-drop (position_or_len test text + 1) text in grind arith

range_within : (test : ℕ → Bool) (text : List ℕ) (expected : Expected) (place : ℕ)
    → HasByte test text
    → IsWrongRange (before_first test text) (after_first test text) expected place
    → place ≤ length text
range_within test text expected place dash (inl (none, address, at)) = omega (arith, at)
range_within test text expected place dash (inr (is, wrong, at)) =
    let parts = parts_within test text dash in
    let blanks = prefix_len-le-length is_ascii_whitespace (after_first test text) in
    omega (arith, at, parts, blanks)

-- a line is wrong where it has content, or at its end
place_within : (text : List ℕ) (expected : Expected) (place : ℕ) → IsExpected text expected place
    → place ≤ length text
place_within text expected place (inl (utf8, inl (slash, wrong))) =
    prefix_within text expected place slash wrong
place_within text expected place (inl (utf8, inr (inl (none, dash, wrong)))) =
    range_within is_dash text expected place dash wrong
place_within text expected place (inl (utf8, inr (inr (none, other, is, at)))) = omega (arith, at)
place_within text expected place (inr (other, is, at)) = omega (arith, at)

trimmed_within : (text : List ℕ) → blank_count text + length (trimmed text) ≤ length text
trimmed_within text =
    let blanks = prefix_len-le-length is_ascii_whitespace text in
    let word = length-drop (blank_count text) text in
    let kept = length-take
    (length (from_word text) - suffix_len is_ascii_whitespace (from_word text)) (from_word text) in
    omega (arith, blanks, word, kept)

says_as : (strict : Bool) (text line : List ℕ) → content text ≡ content line → (said : Line)
    → Says strict text said → Says strict line said
says_as strict text line same Nothing says = sym same ∙ says
says_as strict text line same (Addresses family first last) (utf8, span) = (
  subst IsUtf8 same utf8,
  subst (λ t. IsSpan strict family t first last) same span,
)

-- what follows a start that opens a comment changes nothing
module _ (start rest : List ℕ) (opens : OpensComment start) where
  whole : start ++ rest ≡ opens.0 ++ 35 ∷ rest
  whole = ap (λ t. t ++ rest) opens.1 ∙ append_assoc opens.0 (35 ∷ []) rest

  pub content_kept : content (start ++ rest) ≡ content start
  content_kept =
      ap content whole ∙ content_from 0 opens.0 rest (omega arith) opens.2
      ∙ sym (ap content opens.1 ∙ content_from 0 opens.0 [] (omega arith) opens.2)

  blanks_kept : blank_count (start ++ rest) ≡ blank_count start
  blanks_kept =
      ap blank_count whole ∙ blanks_before opens.0 rest
      ∙ sym (ap blank_count opens.1 ∙ blanks_before opens.0 [])

  pub says_more : (strict : Bool) (said : Line) → Says strict start said
      → Says strict (start ++ rest) said
  says_more strict said = says_as strict start (start ++ rest) (sym content_kept) said

  pub says_before : (strict : Bool) (said : Line) → Says strict (start ++ rest) said
      → Says strict start said
  says_before strict said = says_as strict (start ++ rest) start content_kept said

  pub fault_kept : (column : ℕ) (expected : Expected) → IsFault start column expected
      → IsFault (start ++ rest) column expected
  fault_kept column expected (place, at, is) = (
    place,
    at ∙ ap (λ n. n + place + 1) (sym blanks_kept),
    subst (λ t. IsExpected t expected place) (sym content_kept) is,
  )

  column_within : (column : ℕ) (expected : Expected) → IsFault start column expected
      → column - 1 ≤ length opens.0
  column_within column expected (place, at, is) =
      let within = place_within (content start) expected place is in
      let same : content start ≡ trimmed opens.0 =
      ap content opens.1 ∙ content_from 0 opens.0 [] (omega arith) opens.2 in
      let blanks : blank_count start ≡ blank_count opens.0 =
      ap blank_count opens.1 ∙ blanks_before opens.0 [] in
      let size = ap length same in
      let text = trimmed_within opens.0 in
      omega (arith, at, within, size, blanks, text)

  -- and what stands where the line is wrong
  pub found_kept : (column : ℕ) (expected : Expected) → IsFault start column expected
      → content (drop (column - 1) (start ++ rest)) ≡ content (drop (column - 1) start)
  found_kept column expected fault =
      let within = column_within column expected fault in
      ap (λ t. content (drop (column - 1) t)) whole
      ∙ content_from (column - 1) opens.0 rest within opens.2
      ∙ sym (ap (λ t. content (drop (column - 1) t)) opens.1
      ∙ content_from (column - 1) opens.0 [] within opens.2)

kept_first : (test : ℕ → Bool) (x : ℕ) (xs : List ℕ) → test x ≡ false
    → before_first test (x ∷ xs) ≡ x ∷ before_first test xs
kept_first test x xs none = grind arith

none_first : (test : ℕ → Bool) (x : ℕ) (xs : List ℕ) → test x ≡ false → list_any test xs ≡ false
    → list_any test (x ∷ xs) ≡ false
none_first test x xs none later = grind arith

first_or_later : (test : ℕ → Bool) (x : ℕ) (xs : List ℕ) (b : Bool) → test x ≡ b
    → list_any test (before_first test xs) ≡ false
    → list_any test (before_first test (x ∷ xs)) ≡ false
first_or_later test x xs true is later = grind arith
first_or_later test x xs false is later =
    ap (list_any test) (kept_first test x xs is) ∙ none_first test x (before_first test xs) is later

none_before : (test : ℕ → Bool) (xs : List ℕ) → list_any test (before_first test xs) ≡ false
none_before test [] = refl
none_before test (x ∷ xs) = first_or_later test x xs (test x) refl (none_before test xs)

-- the bytes up to the first one with which a text ends, where that is the sign
pub opens_comment : (bytes : List ℕ) (at : ℕ) → Some at ≡ position ends_text bytes
    → get_or bytes at 0 ≡ 35 → OpensComment (take (at + 1) bytes)
opens_comment bytes at found sign =
    let (within, ends, fails) = position-Some ends_text bytes at 0 (sym found) in
    let first : position_or_len ends_text bytes ≡ at = grind arith in (
      take at bytes,
      take_more bytes at 0 within ∙ ap (λ byte. take at bytes ++ byte ∷ []) sign,
      subst (λ n. list_any ends_text (take n bytes) ≡ false) first (none_before ends_text bytes),
    )

ends_at : (text rest : List ℕ) → list_any ends_text text ≡ false
    → position_or_len ends_text (text ++ 35 ∷ rest) ≡ length text
ends_at [] rest none = refl
ends_at (x ∷ xs) rest none = grind (arith, ends_at xs rest (later_none x xs none))

sign_at : (text rest : List ℕ) → get_or (text ++ 35 ∷ rest) (length text) 0 ≡ 35
sign_at [] rest = refl
sign_at (x ∷ xs) rest = sign_at xs rest

found_in : (bytes text rest : List ℕ) → bytes ≡ text ++ 35 ∷ rest
    → list_any ends_text text ≡ false → (at : ℕ) × (position ends_text bytes ≡ Some at)
    × (get_or bytes at 0 ≡ 35)
found_in bytes text rest is none =
    let at = ap (position_or_len ends_text) is ∙ ends_at text rest none in
    let size = ap length is ∙ length-append text (35 ∷ rest) in (
      length text,
      grind (arith, at, size),
      ap (λ t. get_or t (length text) 0) is ∙ sign_at text rest,
    )

-- where a start opens a comment, that sign is found
pub sign_found : (bytes start : List ℕ) → StartsWith bytes start → OpensComment start
    → (at : ℕ) × (position ends_text bytes ≡ Some at) × (get_or bytes at 0 ≡ 35)
sign_found bytes start starts (text, is, none) =
    let rest = drop (length start) bytes in
    found_in bytes text rest
    (sym (take-append-drop (length start) bytes) ∙ ap (λ t. t ++ rest) starts
    ∙ ap (λ t. t ++ rest) is ∙ append_assoc text (35 ∷ []) rest)
    none
