-- A `&` to the memory of a block reaches the item of each cell. Assumes `Logic`.
use mathlib.Core.List.{[], ◌++◌}
use base.Fml.{Incl, Incl-trans}
use contract.BorrowLft.{meet_⊑_left}
use denote.RattleType.{RattleType}
use denote.Param.Laws.{Laws}
use denote.Param.Shared.{copy_shared}
use denote.Struct.Field.{RawPtr-field}
use denote.Struct.Laws.{RawPtr-copy}
use denote.Struct.Lending.{of_Lends}
use Rattle.circular_buffer.proofs.Sharing.{cells_lent_laws, Lends-cells}
use Rattle.item_cells.specs.contracts.memory.Memory as memory
use Rattle.item_cells.proofs.memory.Memory.TheLaw.Statement.{statement}

module _ (T : RattleType) where
  -- the memory lasts no longer than its items may
  lasts : Incl (memory.the_row T).lives T.lives
  lasts = Incl-trans (meet_⊑_left (T.lives ++ []) _) (meet_⊑_left T.lives [])

  pub shares : (laws : Laws T) → statement T laws
  shares laws = of_Lends (memory.struct T) (memory.the_codes T.Denot T.coded) (memory.the_heap T) (memory.the_lent T)
      (λ m p. cells_lent_laws T laws.shr_laws m.start m.cells)
      (copy_shared RawPtr-field RawPtr-copy, tt)
      (λ M 𝓤 𝓛 m p. Lends-cells 𝓛 (memory.the_row T).lives T laws lasts m.start m.cells)
