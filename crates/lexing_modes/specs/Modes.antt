-- Modes: their scanners, and what their rules do to the mode.
use Rattle.std.specs.Prelude.{◌≡◌, ◌⊎◌, ℕ, ◌≤◌, length, Some, slice_get, ⊤}
use Rattle.lexing_modes.specs.declared.change.ModeChange.{ModeChange}
use Rattle.lexing_modes.specs.declared.error.SetupError.{SetupError}
use Rattle.lexing_modes.specs.declared.error.SetupError.TheVariants.{UnknownMode, Memory}
use Rattle.lexing_modes.specs.declared.modes.Mode.{Mode}
use Rattle.lexing_modes.specs.declared.modes.Modes.{Modes}
use Rattle.lexing_modes.specs.Changes.{Names, change_in}

module _ {S : Type 0} (modes : Modes S) where
  abbrev pub mode_count : ℕ
  mode_count = length modes.modes.items

  -- the scanner of the mode's rules
  abbrev pub IsScannerOf : ℕ → S → Type 0
  IsScannerOf mode scanner =
      (entry : Mode S) × (slice_get modes.modes.items mode ≡ Some entry) × (entry.scanner ≡ scanner)

  -- what the rule does to the mode, behind a token in this mode
  abbrev pub change_after : ℕ → ℕ → ModeChange
  change_after = change_in modes.modes.items

  -- why a change in the mode is not taken: there is no such mode, or none that the change leads to,
  -- or an allocation failed
  abbrev pub IsRefusal : ℕ → ModeChange → SetupError → Type 0
  IsRefusal mode change (UnknownMode unknown) =
      ((unknown ≡ mode) ⊎ Names change unknown) × (mode_count ≤ unknown)
  IsRefusal mode change Memory = ⊤

module _ {S : Type 0} (before after : Modes S) where
  -- each mode of before has its scanner
  abbrev pub KeepsScanners : Type 0
  KeepsScanners = (mode : ℕ) (scanner : S) → IsScannerOf before mode scanner
      → IsScannerOf after mode scanner

  -- each rule does in each mode what it did
  abbrev pub KeepsChanges : Type 0
  KeepsChanges = (mode rule : ℕ) → change_after after mode rule ≡ change_after before mode rule

  -- the rule does this in the mode, and every other, or in another mode, what it did
  pub record ChangesOnly (mode rule : ℕ) (change : ModeChange) : Type 0 where
    pub changed : change_after after mode rule ≡ change
    pub others : (m r : ℕ) → ¬ ((m ≡ mode) × (r ≡ rule))
        → change_after after m r ≡ change_after before m r
