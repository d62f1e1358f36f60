-- How far the lines of a text are counted.
use Rattle.std.proofs.Common.{◌≡◌, ℕ, ◌+◌, ◌-◌, ◌≤◌, List, length, inl, inr, refl, subst, sym, arith}
use Rattle.std.proofs.lemmas.Bool.{cases_lt}
use Rattle.std.proofs.lemmas.List.{take_all}
use Rattle.std.specs.List.{after_first, before_first, position_or_len}
use Rattle.address_text.specs.Lines.{HasByte}
use Rattle.address_text.specs.Places.{IsPlace, ends_line}
use Rattle.address_text.specs.Places.IsPlace.{Below, First}

-- a place in the rest is one in the text, so many lines on
abbrev pub AreCounted : List ℕ → List ℕ → ℕ → Type 0
AreCounted text rest number = (line column : ℕ) → IsPlace rest line column
    → (before : ℕ) → number ≡ before + 1 → IsPlace text (before + line) column

pub none_counted : (text : List ℕ) → AreCounted text text 1
none_counted text line column is before same =
    let all : line ≡ before + line = omega (arith, same) in
    subst (λ n. IsPlace text n column) all is

pub line_counted : (text rest more : List ℕ) (number : ℕ) → 1 ≤ number
    → AreCounted text rest number → HasByte ends_line rest → more ≡ after_first ends_line rest
    → AreCounted text more (number + 1)
line_counted text rest more number some counted has is line column place before same =
    let below = Below rest line column has (subst (λ t. IsPlace t line column) is place) in
    let one : number ≡ (before - 1) + 1 = omega (arith, same, some) in
    let all : (before - 1) + (line + 1) ≡ before + line = omega (arith, same, some) in
    subst (λ n. IsPlace text n column) all (counted (line + 1) column below (before - 1) one)

-- a place in the first line of the rest
pub place_found : (text rest first : List ℕ) (number column : ℕ) → 1 ≤ number
    → AreCounted text rest number → first ≡ before_first ends_line rest → column ≤ length first
    → IsPlace text number column
place_found text rest first number column some counted is within =
    let here = First rest column (subst (λ t. column ≤ length t) is within) in
    let one : number ≡ (number - 1) + 1 = omega (arith, some) in
    subst (λ n. IsPlace text n column) (sym one) (counted 1 column here (number - 1) one)

-- and one in a rest that is one line
pub last_found : (text rest : List ℕ) (number column : ℕ) → 1 ≤ number
    → AreCounted text rest number → ¬ HasByte ends_line rest → column ≤ length rest
    → IsPlace text number column
last_found text rest number column some counted none within =
    place_found text rest rest number column some counted
    (sym (take_all (position_or_len ends_line rest) rest (elim (cases_lt (position_or_len ends_line rest) (length rest)) [
      | inl has ↦ absurd (none has)
      | inr all ↦ all
    ])))
    within
