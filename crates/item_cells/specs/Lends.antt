-- What a block has, once a `&mut` to one of its items has ended.
use Rattle.std.specs.Prelude.{ℕ, slice_set, Some}
use Rattle.item_cells.specs.declared.memory.Memory.{Memory}

abbrev pub with_cell : {X : Type 0} → Memory X → ℕ → X → Memory X
with_cell memory index item = record { start = memory.start; cells = slice_set memory.cells index (Some item) }
