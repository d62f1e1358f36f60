-- Why rules that hold in modes are not taken.
use Rattle.std.specs.Prelude.{◌≡◌, ◌⊎◌, ℕ, ◌<◌, ◌≤◌, Contains, List, Some, slice_get, ⊤}
use Rattle.lexing.specs.declared.error.BuildError.TheVariants.{TooLarge}
use Rattle.lexing.specs.declared.lexer.Lexer.{Lexer}
use Rattle.lexing.specs.Budgets.{IsBuildReason}
use Rattle.lexing.specs.Lexers as lexers
use Rattle.lexing_modes.specs.Changes.{Names}
use Rattle.lexing_patterns.specs.declared.patterns.PatternRule.{PatternRule}
use Rattle.lexing_patterns.specs.Faults.{IsRefusal}
use Rattle.lexing_patterns.specs.Patterns.{IsLexerOf}
use Rattle.lexing_mode_patterns.specs.declared.error.ModeRuleError.{ModeRuleError}
use Rattle.lexing_mode_patterns.specs.declared.error.ModeRuleError.TheVariants.{Rule, UnknownMode, NoMode, TooManyStates, Memory}
use Rattle.lexing_mode_patterns.specs.declared.rules.ModeRule.{ModeRule}
use Rattle.lexing_mode_patterns.specs.Rules.{patterns_in, patterns_of}

-- the rule holds in the mode or leads to it, and it is not among so many
abbrev pub NamesUnknown : ℕ → ModeRule → ℕ → Type 0
NamesUnknown count rule mode =
    (Contains rule.modes.now mode ⊎ Names rule.change mode) × (count ≤ mode)

-- a lexer of the rules leads to more sets of states than the budget
abbrev pub IsTooLarge : List PatternRule → ℕ → Type 0
IsTooLarge rules budget = (lexer : Lexer) × IsLexerOf rules lexer
    × IsBuildReason (lexers.rules_in lexer) budget TooLarge

module _ (rules : List ModeRule) where
  -- why there are not so many modes of the rules: the first pattern that is not taken, a mode that a
  -- rule names, no mode at all, a mode whose machine would be too large, or a failed allocation
  abbrev pub IsRefusalOf : ℕ → ℕ → ModeRuleError → Type 0
  IsRefusalOf count budget (Rule error) = IsRefusal (patterns_of rules) error
  IsRefusalOf count budget (UnknownMode rule mode) =
      (named : ModeRule) × (slice_get rules rule ≡ Some named) × NamesUnknown count named mode
  IsRefusalOf count budget NoMode = count ≡ 0
  IsRefusalOf count budget (TooManyStates mode) =
      (mode < count) × IsTooLarge (patterns_in rules mode) budget
  IsRefusalOf count budget Memory = ⊤
