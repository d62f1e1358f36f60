-- What rules do to the mode.
use Rattle.std.specs.Prelude.{◌≡◌, ℕ, List, Option, Some, None, slice_get, unwrap_or}
use Rattle.std.specs.Ordering.{nat_cmp}
use Rattle.std.specs.BTreeMap.{get}
use Rattle.lexing_modes.specs.declared.change.ModeChange.{ModeChange}
use Rattle.lexing_modes.specs.declared.change.ModeChange.TheVariants.{Stay, Enter, Push, Pop}
use Rattle.lexing_modes.specs.declared.modes.Mode.{Mode}

-- the change leads to the mode of this number
abbrev pub Names : ModeChange → ℕ → Type 0
Names Stay next = ⊥
Names (Enter mode) next = mode ≡ next
Names (Push mode) next = mode ≡ next
Names Pop next = ⊥

module _ {S : Type 0} where
  -- what the rule does in the mode, if it is one
  abbrev pub change_of : Option (Mode S) → ℕ → ModeChange
  change_of None rule = Stay
  change_of (Some mode) rule = unwrap_or (get nat_cmp mode.changes rule) Stay

  -- what the rule does in the mode of this number
  abbrev pub change_in : List (Mode S) → ℕ → ℕ → ModeChange
  change_in modes mode = change_of (slice_get modes mode)
