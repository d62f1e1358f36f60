-- Rules as they cross to C, and the lexers of them.
use Rattle.std.specs.Prelude.{◌≡◌, ℕ, List, Some, length, slice_get}
use Rattle.std.specs.List.{AllZip}
use Rattle.std.specs.Str.{IsUtf8}
use Rattle.lexing.specs.declared.lexer.Lexer.{Lexer}
use Rattle.lexing.specs.Lexers.{rule_count}
use Rattle.lexing_patterns.specs.declared.patterns.PatternRule.{PatternRule}
use Rattle.lexing_patterns.specs.Patterns.{HasNamesOf, SkipsAs}
use Rattle.lexing_patterns.specs.Patterns as patterns
use Rattle.lexer_handles.specs.declared.rules.Rule.{Rule}

-- both the name and the pattern are UTF-8
abbrev pub IsText : Rule → Type 0
IsText rule = IsUtf8 rule.name.now × IsUtf8 rule.pattern.now

-- the rule with the same name and pattern, of text
pub record IsReadAs (rule : Rule) (read : PatternRule) : Type 0 where
  pub name : read.name.now ≡ rule.name.now
  pub pattern : read.pattern.now ≡ rule.pattern.now
  pub skipped : read.skipped ≡ rule.is_skipped

-- each rule is read as the one at its place
abbrev pub AreRead : List Rule → List PatternRule → Type 0
AreRead = AllZip IsReadAs

-- the rule of this number is no text
abbrev pub StopsAtNoText : List Rule → ℕ → Type 0
StopsAtNoText rules at = (rule : Rule) × (slice_get rules at ≡ Some rule) × (¬ IsText rule)

-- the lexer has the names of these rules, its tokens are those of their patterns, and it skips
-- tokens of those that are skipped
pub record IsLexerOf (rules : List Rule) (lexer : Lexer) : Type 0 where
  pub texts : List PatternRule
  pub read : AreRead rules texts
  pub counted : rule_count lexer ≡ length texts
  pub tokens : patterns.IsLexerOf texts lexer
  pub named : HasNamesOf texts lexer
  pub skips : SkipsAs texts lexer
