-- The token that a text begins with.
use Rattle.std.specs.Prelude.{◌≡◌, ℕ, ◌≤◌, ◌<◌, List, Option, Some, None, IsTrue}
use Rattle.std.specs.Ordering.{nat_cmp}
use Rattle.std.specs.BTreeMap as map
use Rattle.std.specs.BTreeMap.{BTreeMap}
use Rattle.std.specs.BTreeSet.{BTreeSet, contains}
use Rattle.state_sets.specs.Beginnings.{AcceptsFirst}
use Rattle.state_sets.specs.Steps.{LeadsTo}

-- a token of the rule may end in the state, by the map
abbrev pub IsRuleAt : BTreeMap ℕ ℕ → ℕ → ℕ → Type 0
IsRuleAt rule_at q rule = map.get nat_cmp rule_at q ≡ Some rule

-- the first rule of which a token may end in one of the states, if there is one
abbrev pub IsFirstAmong : (ℕ → ℕ → Type 0) → BTreeSet ℕ → Option ℕ → Type 0
IsFirstAmong EndsAt states None =
    (p rule : ℕ) → IsTrue (contains nat_cmp states p) → ¬ EndsAt p rule
IsFirstAmong EndsAt states (Some rule) =
    ((p : ℕ) × IsTrue (contains nat_cmp states p) × EndsAt p rule)
    × ((p other : ℕ) → IsTrue (contains nat_cmp states p) → EndsAt p other → rule ≤ other)

module _ (HasStep : ℕ → ℕ → ℕ → Type 0) (IsStart : ℕ → Type 0) (EndsAt : ℕ → ℕ → Type 0) where
  -- a path along the text from where a text may start to where one of the rule may end
  abbrev pub PathOf : ℕ → List ℕ → Type 0
  PathOf rule text = (p : ℕ) × (q : ℕ) × IsStart p × LeadsTo HasStep p text q × EndsAt q rule

  -- the rule accepts the text: there is such a path
  abbrev pub IsAcceptedBy : ℕ → List ℕ → Type 0
  IsAcceptedBy rule text = ∥ PathOf rule text ∥₁

module _ (IsAccepted : ℕ → List ℕ → Type 0) (text : List ℕ) where
  -- the rule accepts the first bytes of the text
  abbrev pub AcceptsFirstBy : ℕ → ℕ → Type 0
  AcceptsFirstBy rule n = AcceptsFirst (IsAccepted rule) text n

  -- the text begins with a token of the rule, of so many bytes: it is not empty, no rule accepts a
  -- longer beginning of the text, and no rule before this one accepts the token
  pub record IsToken (rule len : ℕ) : Type 0 where
    pub nonempty : 0 < len
    pub accepted : AcceptsFirstBy rule len
    pub longest : (other n : ℕ) → AcceptsFirstBy other n → n ≤ len
    pub first : (other : ℕ) → AcceptsFirstBy other len → rule ≤ other

  -- no rule accepts a beginning of the text that is not empty
  abbrev pub BeginsWithNone : Type 0
  BeginsWithNone = (rule n : ℕ) → AcceptsFirstBy rule n → n ≡ 0
