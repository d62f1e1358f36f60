-- What holds of the fields of a block.
use Rattle.std.specs.Prelude.{◌≡◌, length}
use Rattle.item_cells.specs.declared.memory.Memory.{Memory}
use Rattle.item_cells.specs.declared.memory.Permit.{Permit}
use Rattle.item_cells.specs.declared.memory.TheConstants.{CELLS}

-- it may free its memory, and has all its cells
pub record IsBlock {X A : Type 0} (memory : Memory X) (permit : Permit X A) : Type 0 where
  pub there : permit.start ≡ memory.start
  pub len : length memory.cells ≡ CELLS
