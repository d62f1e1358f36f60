-- Automata over characters: which rules they have, which states a step reaches, which texts they
-- accept.
use Rattle.std.specs.Prelude.{◌≡◌, ◌↔◌, ℕ, ◌⊎◌, List, IsTrue, Option, Some, None}
use Rattle.std.specs.Ordering.{nat_cmp}
use Rattle.std.specs.BTreeMap as map
use Rattle.std.specs.BTreeSet.{BTreeSet, contains}
use Rattle.btree_range_map.specs.AnyRange.{AnyRange}
use Rattle.btree_range_map.specs.Characters.{IsCharacter, character_order}
use Rattle.btree_range_map.specs.Range.{Holds}
use Rattle.btree_range_map.specs.Members.{among}
use Rattle.btree_range_map.specs.Multimaps.{Multimap, IsPairOf}
use Rattle.state_sets.specs.Steps as steps
use Rattle.charmoves.specs.declared.moves.Moves.{Moves}
use Rattle.charmoves.specs.declared.rules.Rules.{Rules}

-- the characters and the states that they lead to from one state
abbrev pub Transitions : Type 0
Transitions = Multimap ℕ (BTreeSet ℕ)

-- the character leads to the state by the transitions, if there are some
abbrev pub Leads : Option Transitions → ℕ → ℕ → Type 0
Leads None c q = ⊥
Leads (Some transitions) c q = IsPairOf character_order (contains nat_cmp) transitions c q

-- some rule leads from state p by character c to state q
abbrev pub HasRule : Rules → ℕ → ℕ → ℕ → Type 0
HasRule rules p = Leads (map.get nat_cmp rules.transitions p)

-- a text may start in the state
abbrev pub IsStart : Rules → ℕ → Type 0
IsStart rules p = IsTrue (contains nat_cmp rules.starts p)

-- a text may end in the state
abbrev pub IsAccepting : Rules → ℕ → Type 0
IsAccepting rules p = IsTrue (contains nat_cmp rules.accepting p)

module _ (before after : Rules) where
  -- the rules are those of before
  abbrev pub KeepsRules : Type 0
  KeepsRules = (p c q : ℕ) → HasRule after p c q ↔ HasRule before p c q

  -- so are the start states
  abbrev pub KeepsStarts : Type 0
  KeepsStarts = (p : ℕ) → IsStart after p ↔ IsStart before p

  -- so are the accepting states
  abbrev pub KeepsAccepting : Type 0
  KeepsAccepting = (p : ℕ) → IsAccepting after p ↔ IsAccepting before p

  -- the rules are those of before, and one that leads from a state by each character of the range
  -- to a state
  abbrev pub HasRuleAlso : ℕ → AnyRange ℕ → ℕ → Type 0
  HasRuleAlso from range to = (p c q : ℕ) → IsCharacter c → HasRule after p c q
      ↔ (HasRule before p c q ⊎ ((p ≡ from) × Holds character_order range c × (q ≡ to)))

  -- the start states are those of before, and this one
  abbrev pub StartsAlsoAt : ℕ → Type 0
  StartsAlsoAt state = (p : ℕ) → IsStart after p ↔ (IsStart before p ⊎ (p ≡ state))

  -- the accepting states are those of before, and this one
  abbrev pub AcceptsAlsoAt : ℕ → Type 0
  AcceptsAlsoAt state = (p : ℕ) → IsAccepting after p ↔ (IsAccepting before p ⊎ (p ≡ state))

module _ (rules : Rules) where
  -- the states that some rule leads to from state p by the character, where there are some
  abbrev pub AreTargets : ℕ → ℕ → Option (BTreeSet ℕ) → Type 0
  AreTargets p c found = (q : ℕ) → HasRule rules p c q ↔ IsTrue (among (contains nat_cmp) found q)

  -- the states that some rule leads to from one of the given by the character
  abbrev pub AreReached : BTreeSet ℕ → ℕ → BTreeSet ℕ → Type 0
  AreReached = steps.AreReached (HasRule rules)

  -- a path of rules leads along the characters from state p to state q
  abbrev pub LeadsTo : ℕ → List ℕ → ℕ → Type 0
  LeadsTo = steps.LeadsTo (HasRule rules)

  -- such a path exists from a state where a text may start to one where it may end
  abbrev pub Accepts : List ℕ → Type 0
  Accepts text = (p : ℕ) × (q : ℕ) × IsStart rules p × LeadsTo p text q × IsAccepting rules q

module _ (rules : Rules) where
  -- the states are those in which a text may start
  abbrev pub AreStarts : BTreeSet ℕ → Type 0
  AreStarts = steps.AreStarts (IsStart rules)

  -- a text may end in one of the states
  abbrev pub AcceptsAmong : BTreeSet ℕ → Type 0
  AcceptsAmong states = (p : ℕ) × IsTrue (contains nat_cmp states p) × IsAccepting rules p

  -- the characters by which rules lead on from one of the states, and where they lead
  abbrev pub LeadsAmong : BTreeSet ℕ → Transitions → Type 0
  LeadsAmong states leads = (c q : ℕ) → IsCharacter c
      → IsPairOf character_order (contains nat_cmp) leads c q
      ↔ ((p : ℕ) × IsTrue (contains nat_cmp states p) × HasRule rules p c q)

-- what an automaton was built from
abbrev pub rules_of : Moves → Rules
rules_of moves = moves.rules
