use mathlib.Core.List.{[]}
use denote.RattleType.{RattleType}
use denote.Param.Send.{IsSend, AllSend, owning_send, struct_send, sendable}
use denote.Struct.Owning.{shape, fields, to}
use denote.Struct.Struct.{exits_of}
use Rattle.std_alloc.proofs.SendSync.{quiet}
use Rattle.circular_buffer.proofs.Crosses.{Cells-send}
use Rattle.item_cells.specs.contracts.memory.Memory as memory

-- the memory names no more keys than the cells of a circular buffer would
pub send : (T : RattleType) → IsSend T → IsSend (memory.the_row T)
send T items =
    let all : AllSend (fields (memory.the_type T)) = (search sendable, tt) in
    owning_send (memory.the_type T) all
    (λ m. ((Cells-send T items).owned (record { mark = record {}; at = m.start; slots = m.cells }) []).1)
    (λ k. quiet (to (memory.the_type T)) (exits_of k (fields (memory.the_type T))) ((struct_send (shape (memory.the_type T)) all).leaving k))
