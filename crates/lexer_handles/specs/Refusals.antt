-- Why no lexer is made of rules.
use Rattle.std.specs.Prelude.{◌≡◌, ◌≢◌, ℕ, List, length, take, ⊤}
use Rattle.lexing.specs.declared.error.BuildError.TheVariants.{TooLarge as TooManyStates}
use Rattle.lexing.specs.declared.lexer.Lexer.{Lexer}
use Rattle.lexing.specs.Budgets.{IsBuildReason}
use Rattle.lexing.specs.Lexers.{rules_in}
use Rattle.lexing_patterns.specs.declared.error.PatternError.{PatternError}
use Rattle.lexing_patterns.specs.declared.error.PatternError.TheVariants.{Memory as NoMemory}
use Rattle.lexing_patterns.specs.declared.error.RuleError.{RuleError}
use Rattle.lexing_patterns.specs.declared.patterns.PatternRule.{PatternRule}
use Rattle.lexing_patterns.specs.Faults.{AreTaken, IsRefusal}
use Rattle.regex_hir.specs.Re.{Re}
use Rattle.lexer_handles.specs.declared.refusal.Reason.{Reason}
use Rattle.lexer_handles.specs.declared.refusal.Reason.TheVariants.{NotText, Pattern}
use Rattle.lexer_handles.specs.declared.refusal.Refusal.{Refusal}
use Rattle.lexer_handles.specs.declared.refusal.Refusal.TheVariants.{Rule as Bad, TooLarge, Memory}
use Rattle.lexer_handles.specs.declared.rules.Rule.{Rule}
use Rattle.lexer_handles.specs.Rules.{AreRead, IsLexerOf, StopsAtNoText}

module _ (rules : List Rule) where
  -- the rules before the one of this number are taken
  abbrev pub AreTakenBefore : ℕ → Type 0
  AreTakenBefore at = (texts : List PatternRule) × AreRead (take at rules) texts
      × ((patterns : List Re) × AreTaken texts patterns)

  -- those up to one that is no text are read as these, of which the pattern of one is the first that
  -- is not taken, for this reason
  abbrev pub IsPatternFault : ℕ → PatternError → Type 0
  IsPatternFault at error = (error ≢ NoMemory) × ((texts : List PatternRule)
      × AreRead (take (length texts) rules) texts
      × IsRefusal texts (record { rule = at; error = error }))

  -- the rule of this number is the first that is not taken, for this reason
  abbrev pub IsBadRule : ℕ → Reason → Type 0
  IsBadRule at NotText = StopsAtNoText rules at × AreTakenBefore at
  IsBadRule at (Pattern error) = IsPatternFault at error

  -- a lexer of the rules leads to more sets of states than the budget
  abbrev pub IsTooLarge : ℕ → Type 0
  IsTooLarge budget = (lexer : Lexer) × IsLexerOf rules lexer
      × IsBuildReason (rules_in lexer) budget TooManyStates

  -- why no lexer is made of the rules: one is bad, it would have more states than the budget, or an
  -- allocation failed
  abbrev pub IsRefusalOf : ℕ → Refusal → Type 0
  IsRefusalOf budget (Bad bad) = IsBadRule bad.rule bad.reason
  IsRefusalOf budget TooLarge = IsTooLarge budget
  IsRefusalOf budget Memory = ⊤

-- the refusal tells of the pattern that is not taken, or memory ran out
abbrev pub IsOfPattern : RuleError → Refusal → Type 0
IsOfPattern error (Bad bad) = (bad.rule ≡ error.rule) × (bad.reason ≡ Pattern error.error)
    × (error.error ≢ NoMemory)
IsOfPattern error TooLarge = ⊥
IsOfPattern error Memory = ⊤
