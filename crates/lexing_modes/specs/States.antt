-- Where the cutting of a text stands.
use Rattle.std.specs.Prelude.{◌≡◌, ℕ, ◌<◌, List, [], ◌∷◌, ◌++◌, Some, slice_get}
use Rattle.std.specs.Str.{IsCharBoundary}
use Rattle.lexing_modes.specs.declared.change.ModeChange.{ModeChange}
use Rattle.lexing_modes.specs.declared.change.ModeChange.TheVariants.{Stay, Enter, Push, Pop}
use Rattle.lexing_modes.specs.declared.cursor.Cursor.{Cursor}
use Rattle.lexing_modes.specs.declared.cursor.Unchanged.{Unchanged}
use Rattle.lexing_modes.specs.declared.cursor.Unchanged.TheVariants.{NothingPushed, Memory}

-- the place in bytes, the mode, and the modes below it, the last of which was pushed away last
pub record State : Type 0 where
  pub place : ℕ
  pub mode : ℕ
  pub below : List ℕ

-- where each text begins
abbrev pub first_state : State
first_state = record { place = 0; mode = 0; below = [] }

abbrev pub state_of : Cursor → State
state_of cursor =
    record { place = cursor.place; mode = cursor.mode; below = cursor.below.items }

-- both have the same mode, over the same modes
abbrev pub HasSameModes : State → State → Type 0
HasSameModes before after = (after.mode ≡ before.mode) × (after.below ≡ before.below)

-- the change leads from the modes of before to those of after
abbrev pub LeadsTo : ModeChange → State → State → Type 0
LeadsTo Stay before after = HasSameModes before after
LeadsTo (Enter mode) before after = (after.mode ≡ mode) × (after.below ≡ before.below)
LeadsTo (Push mode) before after =
    (after.mode ≡ mode) × (after.below ≡ before.below ++ before.mode ∷ [])
LeadsTo Pop before after = before.below ≡ after.below ++ after.mode ∷ []

-- why the change leads nowhere: it pops, and nothing was pushed, or it pushes, and an allocation
-- failed
abbrev pub IsRefused : ModeChange → State → Unchanged → Type 0
IsRefused change before NothingPushed = (change ≡ Pop) × (before.below ≡ [])
IsRefused change before Memory = (mode : ℕ) × (change ≡ Push mode)

-- the place is one between characters of the text, and the modes are among so many
pub record IsStateOf (count : ℕ) (text : List ℕ) (state : State) : Type 0 where
  pub boundary : IsCharBoundary text state.place
  pub known : state.mode < count
  pub below : (i mode : ℕ) → slice_get state.below i ≡ Some mode → mode < count
