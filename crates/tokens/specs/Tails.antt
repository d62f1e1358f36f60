-- What rules do to the mode, as it stands behind them.
use Rattle.std.specs.Prelude.{◌≡◌, ◌≢◌, ◌⊎◌, ℕ, List, ◌++◌, Some, codes, slice_get}
use Rattle.std.specs.Str.{trim}
use Rattle.line_program.specs.Lines.{IsSplitAt, Lacks}
use Rattle.lexing_modes.specs.declared.change.ModeChange.{ModeChange}
use Rattle.lexing_modes.specs.declared.change.ModeChange.TheVariants.{Stay, Enter, Push, Pop}

-- the line is the rule, and has no arrow
abbrev pub HasNoArrow : List ℕ → List ℕ → Type 0
HasNoArrow line rule =
    (line ≡ rule) × ((front back : List ℕ) → line ≢ front ++ (codes " -> " ++ back))

-- the line is the rule, an arrow and these words
abbrev pub HasArrow : List ℕ → List ℕ → List ℕ → Type 0
HasArrow line rule words = line ≡ rule ++ (codes " -> " ++ words)

module _ (names : List (List ℕ)) where
  -- no mode has the name
  abbrev pub IsUnknown : List ℕ → Type 0
  IsUnknown name = (number : ℕ) → slice_get names number ≢ Some name

  -- the words say what the rule does: `pop`, `push` and the name of a mode, or the name of one
  abbrev pub Tells : List ℕ → ModeChange → Type 0
  Tells words Stay = ⊥
  Tells words (Enter mode) =
      Lacks 32 words × (words ≢ codes "pop") × (slice_get names mode ≡ Some words)
  Tells words (Push mode) = (name : List ℕ) × IsSplitAt 32 words (codes "push") name
      × (slice_get names mode ≡ Some (trim name))
  Tells words Pop = words ≡ codes "pop"

  -- the words are none of these
  abbrev pub TellsNothing : List ℕ → Type 0
  TellsNothing words = (Lacks 32 words × (words ≢ codes "pop") × IsUnknown words)
      ⊎ ((verb : List ℕ) × (name : List ℕ) × IsSplitAt 32 words verb name
      × ((verb ≢ codes "push") ⊎ IsUnknown (trim name)))

  -- the rule does this to the mode, by what stands behind it in the line
  abbrev pub EndsWith : List ℕ → List ℕ → ModeChange → Type 0
  EndsWith line rule change = (HasNoArrow line rule × (change ≡ Stay))
      ⊎ ((words : List ℕ) × HasArrow line rule words × Tells (trim words) change)

  -- the words behind the rule say nothing that it may do
  abbrev pub LeadsNowhere : List ℕ → Type 0
  LeadsNowhere line = (rule : List ℕ) × (words : List ℕ) × HasArrow line rule words
      × TellsNothing (trim words)
