-- What the states of a machine stand for.
use Rattle.std.specs.Prelude.{◌≡◌, ℕ, ◌+◌, ◌*◌, ◌/◌, ◌<◌, ◌≤◌, ◌==◌, if◌then◌else◌, List, length, Option, Some, None, IsTrue, slice_get, nat_eq}
use Rattle.std.specs.Ordering.{nat_cmp}
use Rattle.std.specs.BTreeSet.{BTreeSet, contains}
use Rattle.btree_range_map.specs.AnyRange.{AnyRange}
use Rattle.btree_range_map.specs.Item.{Item}
use Rattle.btree_range_map.specs.BoxStorage.{BoxStorage}
use Rattle.btree_range_map.specs.Characters.{IsCharacter, character_order}
use Rattle.btree_range_map.specs.Bindings.{Binds}
use Rattle.btree_range_map.specs.Names.{bindings_of}
use Rattle.charmoves.specs.declared.rules.Rules.{Rules}
use Rattle.charmoves.specs.Automata.{HasRule, AreStarts, AreReached}
use Rattle.lexing.specs.declared.lexer.Lexer.{Lexer}
use Rattle.lexing.specs.declared.states.States.{States}
use Rattle.lexing.specs.declared.step.Step.{Step}
use Rattle.state_sets.specs.Tokens.{IsFirstAmong}
use Rattle.lexing.specs.Lexers.{rules_in, Accepts}

-- characters with the states that they lead to
abbrev pub Row : Type 0
Row = BoxStorage (Item (AnyRange ℕ) ℕ)

-- the row binds the character to the state, or to none
abbrev pub RowBinds : Row → ℕ → Option ℕ → Type 0
RowBinds row = Binds character_order nat_eq (bindings_of row)

module _ (rules : Rules) (sets : List (BTreeSet ℕ)) where
  -- the states that rules lead to from those of a set by a character are those of the set of this
  -- index, or there are none
  abbrev pub Goes : BTreeSet ℕ → ℕ → Option ℕ → Type 0
  Goes set c None = (p q : ℕ) → IsTrue (contains nat_cmp set p) → ¬ HasRule rules p c q
  Goes set c (Some next) =
      (reached : BTreeSet ℕ) × (slice_get sets next ≡ Some reached) × AreReached rules set c reached

  -- the row has for each character where the set goes
  abbrev pub IsRowOf : BTreeSet ℕ → Row → Type 0
  IsRowOf set row = (c : ℕ) → IsCharacter c → (next : Option ℕ) → RowBinds row c next
      → Goes set c next

-- the state that the step leads to, if it leads to one
abbrev pub target : Step → Option ℕ
target step = if step.code == 1 then None else Some (step.code / 256)

-- by a byte of ASCII the step leads where the row does, by others nowhere
abbrev pub IsStepOf : Row → ℕ → Step → Type 0
IsStepOf row byte step = (byte < 128 → RowBinds row byte (target step))
    × (128 ≤ byte → target step ≡ None)

-- for each row stand the steps of all bytes
abbrev pub AreSteps : List Row → List Step → Type 0
AreSteps rows steps = (i byte : ℕ) (row : Row) (step : Step) → byte < 256
    → slice_get rows i ≡ Some row → slice_get steps (256 * i + byte) ≡ Some step
    → IsStepOf row byte step

module _ (lexer : Lexer) where
  -- of the sets the first is that of the start states, and the states stand for the first of them
  pub record AreStates (sets : List (BTreeSet ℕ)) (states : States) : Type 0 where
    pub start : (set : BTreeSet ℕ) × (slice_get sets 0 ≡ Some set) × AreStarts (rules_in lexer) set
    pub row : (i : ℕ) (row : Row) (set : BTreeSet ℕ) → slice_get states.rows.items i ≡ Some row
        → slice_get sets i ≡ Some set → IsRowOf (rules_in lexer) sets set row
    pub first : (i : ℕ) (found : Option ℕ) (set : BTreeSet ℕ)
        → slice_get states.first_rules.items i ≡ Some found → slice_get sets i ≡ Some set
        → IsFirstAmong (Accepts lexer) set found
    pub steps : AreSteps states.rows.items states.steps.items
    pub marked : length states.first_rules.items ≡ length states.rows.items
    pub full : length states.steps.items ≡ 256 * length states.rows.items
    pub few : length states.rows.items ≤ length sets

  -- each state stands for a set of states of the lexer's automaton
  abbrev pub IsMachine : States → Type 0
  IsMachine states = (sets : List (BTreeSet ℕ)) × AreStates sets states
      × (length sets ≡ length states.rows.items)
