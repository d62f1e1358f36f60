-- What is said of rules of which there is no token.
use Rattle.std.specs.Prelude.{◌≡◌, ◌⊎◌, ℕ, ◌+◌, List, [], ◌∷◌, ◌++◌, codes, decimal}
use Rattle.std.specs.Str.Lines.{lines}
use Rattle.lexing.specs.declared.lexer.Lexer.{Lexer}
use Rattle.lexing.specs.declared.table.TableState.{TableState}
use Rattle.lexing.specs.Tables.{HasNoToken, IsTableOf, LeadsToRule}
use Rattle.lexing_mode_patterns.specs.declared.rules.ModeRule.{ModeRule}
use Rattle.tokens.specs.Rules.{AreNumbered, AreRulesOf}

abbrev pub warning : List ℕ → ℕ → List ℕ → List ℕ
warning path number name =
    path ++ codes ":" ++ decimal number ++ codes ": warning: no token is of the rule " ++ name
    ++ codes ": all texts that it matches are empty or earlier rules match them\n"

module _ (lexer : Lexer) (table : List TableState) (path : List ℕ) where
  -- what is said of a rule of this name on the line of this number: nothing where the table has
  -- tokens of it
  abbrev pub Warns : ℕ → ℕ → List ℕ → List ℕ → Type 0
  Warns rule number name line = (LeadsToRule table rule × (line ≡ []))
      ⊎ ((¬ LeadsToRule table rule) × HasNoToken lexer rule × (line ≡ warning path number name))

  -- what is said of rules, the first of which is the rule of this number, with those of their lines
  abbrev pub IsWarned : ℕ → List ℕ → List ModeRule → List ℕ → Type 0
  IsWarned rule [] [] said = said ≡ []
  IsWarned rule [] (first ∷ rules) said = ⊥
  IsWarned rule (number ∷ numbers) [] said = ⊥
  IsWarned rule (number ∷ numbers) (first ∷ rules) said = (line : List ℕ) × (more : List ℕ)
      × Warns rule number first.rule.name.now line × IsWarned (rule + 1) numbers rules more
      × (said ≡ line ++ more)

-- what is said of the rules of a text that the lexer has
abbrev pub AreWarnings : List ℕ → List ℕ → Lexer → List ℕ → Type 0
AreWarnings path text lexer said = (names : List (List ℕ)) × (rules : List ModeRule)
    × (numbers : List ℕ) × (table : List TableState) × AreRulesOf text names rules
    × AreNumbered names (lines text) numbers rules × IsTableOf lexer table
    × IsWarned lexer table path 0 numbers rules said
