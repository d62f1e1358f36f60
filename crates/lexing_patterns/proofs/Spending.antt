-- What is left of a budget when parts are put together.
use Rattle.std.proofs.Common.{◌≡◌, ◌<◌, ◌+◌, ◌*◌, inl, inr, ℕ, Bool, vec_len, arith}
use Rattle.regex_hir.specs.Re.{Re, cat, plus}
use Rattle.regex_hir.specs.Meaning.{optional}
use Rattle.lexing_patterns.specs.declared.error.PatternError.{PatternError}
use Rattle.lexing_patterns.specs.declared.part.Part.{Part}
use Rattle.lexing_patterns.specs.Built.{IsBuilt}
use Rattle.lexing_patterns.specs.Faults.{IsTooMuch}
use Rattle.lexing_patterns.specs.Sizes.{step_count}
use Rattle.lexing_patterns.proofs.Sizing.{step_optional}

-- the first of two in turn, of which the second is made
pub front_too_much : (a b : Re) (budget before : ℕ) → budget ≡ before + step_count b
    → (error : PatternError) → IsTooMuch before (step_count a) error
    → IsTooMuch budget (step_count (cat a b)) error
front_too_much a b budget before left error (inl (is, less)) = inl (is, omega (arith, less, left))
front_too_much a b budget before left error (inr is) = inr is

-- two in turn, with the edges between them
module _ (a b : Re) (front back : Part) (low middle high : ℕ) (first : IsBuilt a front middle high)
    (second : IsBuilt b back low middle) (budget before between : ℕ)
    (left : budget ≡ before + step_count b) (spent : before ≡ between + step_count a) where
  pub turn_spent : (after : ℕ) → between ≡ after + vec_len front.ends * vec_len back.leads
      → budget ≡ after + step_count (cat a b)
  turn_spent after edges =
      let ends = first.size.ends in
      let leads = second.size.leads in
      let now = rw (ends, leads) at edges in omega (arith, now, spent, left)

  pub turn_too_much : (error : PatternError)
      → IsTooMuch between (vec_len front.ends * vec_len back.leads) error
      → IsTooMuch budget (step_count (cat a b)) error
  turn_too_much error (inl (is, less)) =
      let ends = first.size.ends in
      let leads = second.size.leads in
      let now = rw (ends, leads) at less in inl (is, omega (arith, now, spent, left))
  turn_too_much error (inr is) = inr is

-- one round or several, with the edges back
module _ (greedy : Bool) (a : Re) (once : Part) (low high budget between : ℕ)
    (is : IsBuilt a once low high) (spent : budget ≡ between + step_count a) where
  pub rounds_spent : (after : ℕ) → between ≡ after + vec_len once.ends * vec_len once.leads
      → budget ≡ after + step_count (plus greedy a)
  rounds_spent after edges =
      let ends = is.size.ends in
      let leads = is.size.leads in
      let now = rw (ends, leads) at edges in omega (arith, now, spent)

  pub rounds_too_much : (error : PatternError)
      → IsTooMuch between (vec_len once.ends * vec_len once.leads) error
      → IsTooMuch budget (step_count (plus greedy a)) error
  rounds_too_much error (inl (same, less)) =
      let ends = is.size.ends in
      let leads = is.size.leads in
      let now = rw (ends, leads) at less in inl (same, omega (arith, now, spent))
  rounds_too_much error (inr same) = inr same

-- and the empty text too
pub optional_too_much : (greedy : Bool) (a : Re) (budget after : ℕ) → budget ≡ after + step_count a
    → (error : PatternError) → IsTooMuch after 1 error
    → IsTooMuch budget (step_count (optional greedy a)) error
optional_too_much greedy a budget after spent error (inl (is, less)) =
    inl (is, omega (arith, less, spent, step_optional greedy a))
optional_too_much greedy a budget after spent error (inr is) = inr is
