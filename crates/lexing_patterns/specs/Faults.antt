-- Why patterns are not taken.
use Rattle.std.specs.Prelude.{◌≡◌, ◌≢◌, ◌≤◌, ◌<◌, ◌⊎◌, ℕ, List, [], ◌∷◌, ◌++◌, Some, slice_get, take, ⊤}
use Rattle.std.specs.List.{AllByRecursion}
use Rattle.std.specs.Str.{IsCharBoundary}
use Rattle.regex_hir.specs.Re.{Re}
use Rattle.regex_syntax.specs.Verdict.{Refuses, default_config}
use Rattle.regex_syntax.specs.declared.error.Error.{Error}
use Rattle.regex_syntax.specs.declared.error.ErrorKind.TheVariants.{OutOfMemory}
use Rattle.lexing_patterns.specs.declared.error.PatternError.{PatternError}
use Rattle.lexing_patterns.specs.declared.error.PatternError.TheVariants.{Syntax, Assertion, NotText, TooLarge, Memory}
use Rattle.lexing_patterns.specs.declared.error.RuleError.{RuleError}
use Rattle.lexing_patterns.specs.declared.patterns.PatternRule.{PatternRule}
use Rattle.lexing_patterns.specs.Leaves.{HasLeaf, IsAssertion, IsBytes, IsTaken}
use Rattle.lexing_patterns.specs.Patterns.{IsReadAs, AreReadAs}
use Rattle.lexing_patterns.specs.Sizes.{step_budget, step_count, total_steps}

-- more steps are needed than the budget has, or an allocation failed
abbrev pub IsTooMuch : ℕ → ℕ → PatternError → Type 0
IsTooMuch budget steps error = ((error ≡ TooLarge) × (budget < steps)) ⊎ (error ≡ Memory)

-- why what a pattern means is not taken: it has an assertion or bytes, takes more steps than the
-- budget has, or an allocation failed
abbrev pub IsFaultIn : ℕ → Re → PatternError → Type 0
IsFaultIn budget re (Syntax fault) = ⊥
IsFaultIn budget re Assertion = HasLeaf IsAssertion re
IsFaultIn budget re NotText = HasLeaf IsBytes re
IsFaultIn budget re TooLarge = budget < step_count re
IsFaultIn budget re Memory = ⊤

-- why it is not taken behind these
abbrev pub IsFaultBehind : List Re → Re → PatternError → Type 0
IsFaultBehind before re (Syntax fault) = ⊥
IsFaultBehind before re Assertion = HasLeaf IsAssertion re
IsFaultBehind before re NotText = HasLeaf IsBytes re
IsFaultBehind before re TooLarge = step_budget < total_steps (before ++ re ∷ [])
IsFaultBehind before re Memory = ⊤

-- the grammar refuses the pattern for this reason, and for what stands there in it
abbrev pub IsSyntaxFault : List ℕ → Error → Type 0
IsSyntaxFault pattern fault = Refuses default_config pattern fault.kind
    × (fault.kind ≢ OutOfMemory) × (fault.span.start ≤ fault.span.end)
    × IsCharBoundary pattern fault.span.start × IsCharBoundary pattern fault.span.end

-- why the pattern is not taken behind these: the grammar refuses it, there is a fault in what it is
-- read as, or all of them take more steps than the budget has
abbrev pub IsFault : List Re → List ℕ → PatternError → Type 0
IsFault before pattern (Syntax fault) = IsSyntaxFault pattern fault
IsFault before pattern Memory = ⊤
IsFault before pattern other =
    (re : Re) × IsReadAs pattern re × IsFaultBehind before re other

-- the rules are read as these patterns, in none of which is a fault
pub record AreTaken (rules : List PatternRule) (patterns : List Re) : Type 0 where
  pub read : AreReadAs rules patterns
  pub taken : AllByRecursion IsTaken patterns
  pub few : total_steps patterns ≤ step_budget

-- the rule of this number is not taken for this reason, and those before it are taken; or an
-- allocation failed
abbrev pub IsRefusal : List PatternRule → RuleError → Type 0
IsRefusal rules refused = (refused.error ≡ Memory)
    ⊎ ((rule : PatternRule) × (slice_get rules refused.rule ≡ Some rule) × (patterns : List Re)
    × AreTaken (take refused.rule rules) patterns
    × IsFault patterns rule.pattern.now refused.error)
