-- How a bad rule is told.
use Rattle.std.specs.Prelude.{◌≡◌, ℕ, List}
use Rattle.lexing_patterns.specs.declared.error.PatternError.TheVariants.{Syntax, Assertion, NotText as Bytes, TooLarge, Memory}
use Rattle.lexer_handles.specs.declared.fault.Fault.{Fault}
use Rattle.lexer_handles.specs.declared.refusal.BadRule.{BadRule}
use Rattle.lexer_handles.specs.declared.refusal.Reason.{Reason}
use Rattle.lexer_handles.specs.declared.refusal.Reason.TheVariants.{NotText, Pattern}
use Rattle.lexer_handles.specs.declared.rules.Rule.{Rule}
use Rattle.lexer_handles.specs.Refusals.{IsBadRule}

-- the number of each reason
abbrev pub number_of : Reason → ℕ
number_of NotText = 5
number_of (Pattern (Syntax error)) = 1
number_of (Pattern Assertion) = 2
number_of (Pattern Bytes) = 3
number_of (Pattern TooLarge) = 4
number_of (Pattern Memory) = 0

-- the bytes of a pattern that are no pattern
abbrev pub start_of : Reason → ℕ
start_of (Pattern (Syntax error)) = error.span.start
start_of _ = 0

abbrev pub end_of : Reason → ℕ
end_of (Pattern (Syntax error)) = error.span.end
end_of _ = 0

-- the fault is that of the rule
pub record TellsOf (bad : BadRule) (fault : Fault) : Type 0 where
  pub rule : fault.rule ≡ bad.rule
  pub reason : fault.reason ≡ number_of bad.reason
  pub start : fault.start ≡ start_of bad.reason
  pub end : fault.end ≡ end_of bad.reason

-- the fault is that of the first rule that is not taken
abbrev pub IsFaultOf : List Rule → Fault → Type 0
IsFaultOf rules fault = (bad : BadRule) × IsBadRule rules bad.rule bad.reason × TellsOf bad fault
