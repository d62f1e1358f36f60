-- Rules that hold in modes.
use Rattle.std.specs.Prelude.{◌≡◌, ℕ, ◌<◌, ◌==◌, Bool, List, Some, filter, length, map, slice_get}
use Rattle.std.specs.List.{list_any}
use Rattle.lexing.specs.declared.lexer.Lexer.{Lexer}
use Rattle.lexing.specs.declared.machine.Machine.{Machine}
use Rattle.lexing.specs.Lexers.{rule_count}
use Rattle.lexing.specs.MachineSteps.{lexer_of}
use Rattle.lexing_modes.specs.declared.modes.Modes.{Modes}
use Rattle.lexing_modes.specs.Modes.{IsScannerOf, change_after}
use Rattle.lexing_patterns.specs.declared.patterns.PatternRule.{PatternRule}
use Rattle.lexing_patterns.specs.Patterns.{HasNamesOf, IsLexerOf, SkipsAs}
use Rattle.lexing_mode_patterns.specs.declared.rules.ModeRule.{ModeRule}

-- the rule holds in the mode
abbrev pub holds_in : ℕ → ModeRule → Bool
holds_in mode rule = list_any (λ other. other == mode) rule.modes.now

-- the rules that hold in the mode, in their order
abbrev pub rules_in : List ModeRule → ℕ → List ModeRule
rules_in rules mode = filter (holds_in mode) rules

-- the names and patterns of the rules
abbrev pub patterns_of : List ModeRule → List PatternRule
patterns_of rules = map (λ rule. rule.rule) rules

abbrev pub patterns_in : List ModeRule → ℕ → List PatternRule
patterns_in rules mode = patterns_of (rules_in rules mode)

-- the lexer is that of these rules
pub record IsOfRules (rules : List PatternRule) (lexer : Lexer) : Type 0 where
  pub counted : rule_count lexer ≡ length rules
  pub tokens : IsLexerOf rules lexer
  pub named : HasNamesOf rules lexer
  pub skips : SkipsAs rules lexer

abbrev pub IsMachineOf : List PatternRule → Machine → Type 0
IsMachineOf rules machine = IsOfRules rules (lexer_of machine)

-- in the mode these rules, by their order, do what they say
abbrev pub HasChangesIn : List ModeRule → ℕ → Modes Machine → Type 0
HasChangesIn held mode modes = (i : ℕ) (rule : ModeRule) → slice_get held i ≡ Some rule
    → change_after modes mode i ≡ rule.change

module _ (rules : List ModeRule) (count : ℕ) (modes : Modes Machine) where
  -- the scanner of each mode is a machine of the rules that hold in it
  abbrev pub HasScannersOf : Type 0
  HasScannersOf = (mode : ℕ) → mode < count → (machine : Machine)
      × IsScannerOf modes mode machine × IsMachineOf (patterns_in rules mode) machine

  -- in each mode the rules that hold in it do what they say
  abbrev pub HasChangesOf : Type 0
  HasChangesOf = (mode : ℕ) → mode < count → HasChangesIn (rules_in rules mode) mode modes
