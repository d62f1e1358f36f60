-- The first rule of the states that were looked at.
use Rattle.std.proofs.Common.{◌≡◌, ◌⊎◌, ℕ, ◌≤◌, IsTrue, List, [], ◌∷◌, Option, Some, None, BTreeSet, arith}
use Rattle.std.specs.Prelude.{IfSome, MatchOption}
use Rattle.std.specs.List.{list_any}
use Rattle.std.specs.Ordering.{nat_cmp, eq_by_cmp}
use Rattle.std.specs.BTreeMap as map
use Rattle.std.specs.BTreeMap.{BTreeMap}
use Rattle.std.proofs.lemmas.Bool.Decides.{nat_tests}
use Rattle.state_sets.specs.Tokens.{IsRuleAt, IsFirstAmong}

-- the state is one of these
abbrev pub IsIn : List ℕ → ℕ → Type 0
IsIn states p = IsTrue (list_any (eq_by_cmp nat_cmp p) states)

module _ (rule_at : BTreeMap ℕ ℕ) where
  -- each rule of the states is that of one that is left, or comes not before the first so far
  pub record IsFirstSoFar (states : List ℕ) (first : Option ℕ) (left : List ℕ) : Type 0 where
    pub within : (p : ℕ) → IsIn left p → IsIn states p
    pub least : (p rule : ℕ) → IsIn states p → IsRuleAt rule_at p rule
        → IsIn left p ⊎ MatchOption first ⊥ (λ least. least ≤ rule)
    pub found : IfSome first (λ rule. (p : ℕ) × IsIn states p × IsRuleAt rule_at p rule)

  module _ (states : List ℕ) (first : Option ℕ) (p : ℕ) (rest left : List ℕ)
      (turn : left ≡ p ∷ rest) (was : IsFirstSoFar states first left) where
    pub first_more : (rule new : ℕ) → map.get nat_cmp rule_at p ≡ Some rule → new ≤ rule
        → IfSome first (λ other. new ≤ other) → ((new ≡ rule) ⊎ (first ≡ Some new))
        → IsFirstSoFar states (Some new) rest
    first_more rule new at below least one = record {
      within = grind (arith, nat_tests);
      least = λ q other h. grind (arith, nat_tests, was.least q other h);
      found = grind (arith, nat_tests);
    }

  pub first_of_all : (states : BTreeSet ℕ) (first : Option ℕ) (left : List ℕ) → left ≡ []
      → IsFirstSoFar states.keys first left → IsFirstAmong (IsRuleAt rule_at) states first
  first_of_all states None left none was = grind (arith, was.least)
  first_of_all states (Some first) left none was = grind (arith, was.least)
