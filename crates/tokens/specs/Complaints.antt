-- What is said of rules of which there are no modes.
use Rattle.std.specs.Prelude.{◌≡◌, ◌≢◌, ◌⊎◌, ℕ, ◌<◌, true, List, ◌++◌, codes, None, length}
use Rattle.std.specs.Str.Lines.{lines}
use Rattle.lexing_patterns.specs.declared.error.PatternError.{PatternError}
use Rattle.lexing_patterns.specs.declared.error.PatternError.TheVariants.{Memory}
use Rattle.lexing_patterns.specs.Faults.{AreTaken, IsFault}
use Rattle.lexing_mode_patterns.specs.declared.rules.ModeRule.{ModeRule}
use Rattle.lexing_mode_patterns.specs.Refusals.{IsTooLarge}
use Rattle.lexing_mode_patterns.specs.Rules.{patterns_in, patterns_of}
use Rattle.regex_hir.specs.Re.{Re}
use Rattle.tokens.specs.Heads.{AreModesOf}
use Rattle.tokens.specs.Texts.{begins_with_mark}
use Rattle.tokens.specs.Rules.{AreRead, IsBad, IsNumbered, IsRule, TellsOfLine, too_many_states}

-- why a line is not taken behind these patterns: it is no rule, or there is a fault in its pattern
abbrev pub IsBadLine : List (List ℕ) → List Re → List ℕ → Type 0
IsBadLine names patterns line = IsBad names line
    ⊎ ((rule : ModeRule) × (error : PatternError) × IsRule names line rule × (error ≢ Memory)
    × IsFault patterns rule.rule.pattern.now error)

-- what is said tells of the first line that is not taken: the rules of those before it are
abbrev pub TellsOfFirst : List ℕ → List (List ℕ) → List ℕ → Type 0
TellsOfFirst path all said = (names : List (List ℕ)) × (number : ℕ) × (rules : List ModeRule)
    × (patterns : List Re) × AreModesOf all names × TellsOfLine path number said
    × AreTaken (patterns_of rules) patterns
    × IsNumbered names (IsBadLine names patterns) all number rules

-- some text leads to each of more sets of states than a machine may have, in a lexer of a mode's rules
abbrev pub NeedsMoreStates : List (List ℕ) → Type 0
NeedsMoreStates all = (names : List (List ℕ)) × (rules : List ModeRule) × (mode : ℕ)
    × AreModesOf all names × AreRead names all None rules × (mode < length names)
    × IsTooLarge (patterns_in rules mode) 10000

-- what is said of lines of which there are no modes
abbrev pub IsComplaint : List ℕ → List (List ℕ) → List ℕ → Type 0
IsComplaint path all said = TellsOfFirst path all said
    ⊎ ((said ≡ too_many_states path) × NeedsMoreStates all)

-- what is said where there are no modes of a text: it begins with a byte order mark, or its lines
-- have none
abbrev pub IsRefused : List ℕ → List ℕ → List ℕ → Type 0
IsRefused path text said =
    ((begins_with_mark text ≡ true)
    × (said ≡ path ++ codes ":1:1: a byte order mark stands before the rules\n"))
    ⊎ IsComplaint path (lines text) said
