-- What lines of rules are read as.
use Rattle.std.specs.Prelude.{◌≡◌, ℕ, true, List}
use Rattle.tokens.specs.declared.lines.Line.{Line}
use Rattle.tokens.specs.declared.lines.Line.TheVariants.{Nothing, Rule, Bad}
use Rattle.tokens.specs.Rules.{says_nothing, IsRule, IsBad}

-- what the line says, which has no spaces around it, by the names of all modes
abbrev pub Says : List (List ℕ) → List ℕ → Line → Type 0
Says names line Nothing = says_nothing line ≡ true
Says names line (Rule rule) = IsRule names line rule
Says names line (Bad words) = IsBad names line
