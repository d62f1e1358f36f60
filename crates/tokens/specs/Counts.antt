-- How many tokens each rule has, as it is printed.
use Rattle.std.specs.Prelude.{◌≡◌, ◌⊎◌, ℕ, zero, suc, Bool, true, ◌&&◌, ◌==◌, List, [], ◌∷◌, ◌++◌, Ok, Err, EachIndex, slice_index, count_by, codes, decimal, if◌then◌else◌}
use Rattle.lexing.specs.declared.lexer.Lexer.{Lexer}
use Rattle.lexing.specs.declared.machine.Machine.{Machine}
use Rattle.lexing.specs.Lexers.{IsNameOf, rule_count}
use Rattle.lexing.specs.MachineSteps.{lexer_of}
use Rattle.lexing_modes.specs.declared.modes.Modes.{Modes}
use Rattle.lexing_modes.specs.Modes.{IsScannerOf, mode_count}
use Rattle.tokens.specs.Printing.{AreTokensOf, Next, are_tokens}

-- how often the number is among these
abbrev pub count_of : ℕ → List ℕ → ℕ
count_of number numbers = count_by (λ other. other == number) numbers

-- the counts are those of the numbers, each at its index
abbrev pub AreCounts : List ℕ → List ℕ → Type 0
AreCounts numbers counts = EachIndex counts (λ number. slice_index counts number ≡ count_of number numbers)

-- the numbers of the rules of those tokens that are of the mode
abbrev pub rules_in : ℕ → List Next → List ℕ
rules_in mode [] = []
rules_in mode (Ok found ∷ more) =
    if found.mode == mode then found.token.rule ∷ rules_in mode more else rules_in mode more
rules_in mode (Err error ∷ more) = rules_in mode more

module _ (lexer : Lexer) where
  -- the line of a rule that has so many tokens: its name and their count; none where there are none
  abbrev pub WritesCount : ℕ → ℕ → List ℕ → Type 0
  WritesCount rule count line = ((count ≡ 0) × (line ≡ []))
      ⊎ ((¬ (count ≡ 0)) × (name : List ℕ) × IsNameOf lexer rule name
      × (line ≡ name ++ codes " " ++ decimal count ++ codes "\n"))

  -- the lines of the first rules, so many of them, by the numbers of the rules of all tokens
  abbrev pub AreCountLines : List ℕ → ℕ → List ℕ → Type 0
  AreCountLines numbers zero said = said ≡ []
  AreCountLines numbers (suc rule) said = (front : List ℕ) × (line : List ℕ)
      × AreCountLines numbers rule front × WritesCount rule (count_of rule numbers) line
      × (said ≡ front ++ line)

module _ (modes : Modes Machine) (text : List ℕ) where
  -- these are the numbers of the rules of the text's tokens in the mode; and whether tokens are all of
  -- the text
  abbrev pub HasNumbersIn : ℕ → Bool → List ℕ → Type 0
  HasNumbersIn mode is_whole numbers = (items : List Next) × AreTokensOf modes text items
      × (is_whole ≡ are_tokens items) × (numbers ≡ rules_in mode items)

  -- the lines of the rules of the mode
  abbrev pub IsModeCounted : ℕ → Bool → List ℕ → Type 0
  IsModeCounted mode is_whole said = (machine : Machine) × (numbers : List ℕ)
      × IsScannerOf modes mode machine × HasNumbersIn mode is_whole numbers
      × AreCountLines (lexer_of machine) numbers (rule_count (lexer_of machine)) said

  -- the lines of the first modes, so many of them
  abbrev pub AreCounted : ℕ → Bool → List ℕ → Type 0
  AreCounted zero is_whole said = (is_whole ≡ true) × (said ≡ [])
  AreCounted (suc mode) is_whole said = (was : Bool) × (one : Bool) × (front : List ℕ)
      × (lines : List ℕ) × AreCounted mode was front × IsModeCounted mode one lines
      × (is_whole ≡ (was && one)) × (said ≡ front ++ lines)

  -- what is printed is how many tokens each rule has, mode by mode; and whether tokens are all of the
  -- text
  abbrev pub IsCounted : Bool → List ℕ → Type 0
  IsCounted = AreCounted (mode_count modes)
