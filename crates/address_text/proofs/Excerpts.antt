-- The start of a text.
use Rattle.std.proofs.Common.{◌≡◌, ℕ, ◌≤◌, ◌<◌, ◌++◌, List, length, take, inl, inr, ap, sym, ◌∙◌, arith}
use Rattle.std.proofs.lemmas.Bool.{cases_lt}
use Rattle.std.proofs.lemmas.Grind.{common_steps}
use Rattle.std.proofs.lemmas.List.{take_all}

start_of : (text : List ℕ) (count most : ℕ) → count ≤ most → (count < most → count ≡ length text)
    → take count text ≡ take most text
start_of text count most low all =
    elim (cases_lt count most) [
      | inl less ↦
          let whole : count ≡ length text = all less in
          take_all count text (omega (arith, whole))
          ∙ sym (take_all most text (omega (arith, whole)))
      | inr full ↦ let same : count ≡ most = omega (arith, full) in ap (λ n. take n text) same
    ]

start_kept : (text front rest : List ℕ) (count : ℕ) → front ≡ take count text
    → count ≤ length text → take count (front ++ rest) ≡ take count text
start_kept text front rest count is within = grind (arith, common_steps)

pub excerpt_is : (text front rest : List ℕ) (count most : ℕ) → front ≡ take count text
    → count ≤ length text → count ≤ most → (count < most → count ≡ length text)
    → take count (front ++ rest) ≡ take most text
excerpt_is text front rest count most is within low all =
    start_kept text front rest count is within ∙ start_of text count most low all
