use denote.RattleType.{RattleType}
use denote.Param.Send.{IsSync, struct_sync, sendable}
use denote.Struct.Owning.{shape, to}
use Rattle.circular_buffer.proofs.Crosses.{Cells-sync}
use Rattle.item_cells.specs.contracts.memory.Memory as memory

pub sync : (T : RattleType) → IsSync T → IsSync (memory.the_row T)
sync T items = record {
  shared = λ m b o κ. (
    (struct_sync (shape (memory.the_type T)) (search sendable, tt)).shared (to (memory.the_type T) m) b o κ,
    ((Cells-sync T items).shared (record { mark = record {}; at = m.start; slots = m.cells }) b o κ).1,
  );
}
