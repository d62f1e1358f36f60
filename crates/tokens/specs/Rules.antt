-- The rules of a text: a line each.
use Rattle.std.specs.Prelude.{◌≡◌, ◌↔◌, ◌⊎◌, ℕ, ◌+◌, Bool, true, false, not, ◌==◌, List, [], ◌∷◌, ◌++◌, Option, Some, None, take, slice_get, IsTrue, filter, map, codes, decimal}
use Rattle.std.specs.List.{AllZip}
use Rattle.std.specs.Str.{trim}
use Rattle.std.specs.Str.Lines.{lines}
use Rattle.line_program.specs.Lines.{IsSplitAt, Lacks}
use Rattle.lexing.specs.declared.machine.Machine.{Machine}
use Rattle.lexing_modes.specs.declared.modes.Modes.{Modes}
use Rattle.lexing_modes.specs.Modes.{mode_count}
use Rattle.lexing_patterns.specs.declared.patterns.PatternRule.{PatternRule}
use Rattle.lexing_mode_patterns.specs.declared.rules.ModeRule.{ModeRule}
use Rattle.lexing_mode_patterns.specs.Rules.{HasChangesOf, HasScannersOf}
use Rattle.tokens.specs.Heads.{AreModesOf, HasNumbers, behind_modes}
use Rattle.tokens.specs.Tails.{EndsWith, HasArrow, HasNoArrow, LeadsNowhere}

-- the line says nothing: it is blank or a comment
abbrev pub says_nothing : List ℕ → Bool
says_nothing [] = true
says_nothing (first ∷ rest) = first == 35

-- the text is a rule: its name, a space and its pattern, without the spaces around it
pub record IsPattern (text : List ℕ) (rule : PatternRule) : Type 0 where
  pub rest : List ℕ
  pub says : says_nothing text ≡ false
  pub split : IsSplitAt 32 text rule.name.now rest
  pub pattern : rule.pattern.now ≡ trim rest
  pub skipped : IsTrue rule.skipped ↔ (rule.name.now ≡ codes "skip")

-- the line is a rule between the modes in which it holds and what it does to the mode, by the names
-- of all modes
pub record IsRule (names : List (List ℕ)) (line : List ℕ) (rule : ModeRule) : Type 0 where
  pub rest : List ℕ
  pub text : List ℕ
  pub says : says_nothing line ≡ false
  pub modes : HasNumbers names line rule.modes.now
  pub behind : behind_modes line ≡ Some rest
  pub change : EndsWith names rest text rule.change
  pub pattern : IsPattern (trim text) rule.rule

-- the text has no name and no pattern
abbrev pub IsNoPattern : List ℕ → Type 0
IsNoPattern text = (says_nothing text ≡ true) ⊎ Lacks 32 text

-- the line says something, and is no rule: the `<` at its start is not closed, or it has no pattern
abbrev pub IsNoRule : List ℕ → Type 0
IsNoRule line = (says_nothing line ≡ false)
    × ((behind_modes line ≡ None)
    ⊎ ((rest : List ℕ) × (text : List ℕ) × (behind_modes line ≡ Some rest)
    × (HasNoArrow rest text ⊎ ((words : List ℕ) × HasArrow rest text words))
    × IsNoPattern (trim text)))

-- the lines that say something, without the spaces around them
abbrev pub rule_lines : List (List ℕ) → List (List ℕ)
rule_lines all = filter (λ line. not (says_nothing line)) (map trim all)

-- the rules are those of the text, in the order of their lines, with modes of these names
abbrev pub AreRulesOf : List ℕ → List (List ℕ) → List ModeRule → Type 0
AreRulesOf text names rules = AreModesOf (lines text) names
    × AllZip (IsRule names) (rule_lines (lines text)) rules

module _ (names : List (List ℕ)) where
  -- the first lines, so many of them, say these rules
  abbrev pub AreRulesUpTo : List (List ℕ) → ℕ → List ModeRule → Type 0
  AreRulesUpTo all count rules = AllZip (IsRule names) (rule_lines (take count all)) rules

  -- the line of this number, from 1, is such without the spaces around it, and the lines before it
  -- say these rules
  abbrev pub IsNumbered : (List ℕ → Type 0) → List (List ℕ) → ℕ → List ModeRule → Type 0
  IsNumbered P all number rules = (before : ℕ) × (line : List ℕ) × (number ≡ before + 1)
      × (slice_get all before ≡ Some line) × AreRulesUpTo all before rules × P (trim line)

  -- the line is no rule, or what stands behind it says nothing by these names of modes
  abbrev pub IsBad : List ℕ → Type 0
  IsBad line = IsNoRule line
      ⊎ ((rest : List ℕ) × (behind_modes line ≡ Some rest) × LeadsNowhere names rest)

  -- the lines say the rules, up to the first line that is none, if there is one
  abbrev pub AreRead : List (List ℕ) → Option ℕ → List ModeRule → Type 0
  AreRead all None rules = AllZip (IsRule names) (rule_lines all) rules
  AreRead all (Some number) rules = IsNumbered IsBad all number rules

  -- each rule is the line of its number, behind the rules before it
  abbrev pub AreNumbered : List (List ℕ) → List ℕ → List ModeRule → Type 0
  AreNumbered all numbers rules = (i number : ℕ) (rule : ModeRule)
      → slice_get numbers i ≡ Some number → slice_get rules i ≡ Some rule
      → IsNumbered (λ line. IsRule names line rule) all number (take i rules)

abbrev pub line_place : List ℕ → ℕ → List ℕ
line_place path number = path ++ codes ":" ++ decimal number ++ codes ": "

-- what is said begins with the path and the number of the line
abbrev pub TellsOfLine : List ℕ → ℕ → List ℕ → Type 0
TellsOfLine path number said = (more : List ℕ) × (said ≡ line_place path number ++ more)

abbrev pub too_many_states : List ℕ → List ℕ
too_many_states path =
    path ++ codes ": the rules need more than " ++ decimal 10000 ++ codes " states\n"

-- the modes are those of the rules, so many of them
pub record AreModesBy (rules : List ModeRule) (wanted : ℕ) (modes : Modes Machine) : Type 0 where
  pub count : mode_count modes ≡ wanted
  pub scanners : HasScannersOf rules wanted modes
  pub changes : HasChangesOf rules wanted modes
