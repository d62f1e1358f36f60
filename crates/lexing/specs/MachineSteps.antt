-- Machines, and one step of them.
use Rattle.std.specs.Prelude.{◌≡◌, ℕ, List, length, Option, Some, slice_get}
use Rattle.std.specs.BTreeSet.{BTreeSet}
use Rattle.lexing.specs.declared.lexer.Lexer.{Lexer}
use Rattle.lexing.specs.declared.machine.Machine.{Machine}
use Rattle.lexing.specs.Lexers.{rules_in}
use Rattle.lexing.specs.Machines.{AreStates, Goes}

-- the lexer that the machine was built from
abbrev pub lexer_of : Machine → Lexer
lexer_of machine = machine.lexer

abbrev pub state_count : Machine → ℕ
state_count machine = length machine.states.rows.items

-- whatever sets the states stand for, the character leads from that of the state to that of the next
abbrev pub GoesTo : Machine → ℕ → ℕ → Option ℕ → Type 0
GoesTo machine state c next = (sets : List (BTreeSet ℕ))
    → AreStates machine.lexer sets machine.states → length sets ≡ state_count machine
    → (set : BTreeSet ℕ) → slice_get sets state ≡ Some set
    → Goes (rules_in machine.lexer) sets set c next
