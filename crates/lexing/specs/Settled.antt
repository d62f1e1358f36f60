-- Texts with which each text begins with the same token.
use Rattle.std.specs.Prelude.{ℕ, List}
use Rattle.std.specs.Str.{chars}
use Rattle.charmoves.specs.Automata.{HasRule, IsStart}
use Rattle.state_sets.specs.Steps.{LeadsTo}
use Rattle.lexing.specs.declared.lexer.Lexer.{Lexer}
use Rattle.lexing.specs.Lexers.{rules_in}

-- no path leads along the text from a start state: what begins with it is no token
abbrev pub LeadsNowhere : Lexer → List ℕ → Type 0
LeadsNowhere lexer text = (p q : ℕ) → IsStart (rules_in lexer) p
    → ¬ LeadsTo (HasRule (rules_in lexer)) p (chars text) q
