use denote.RattleType.{RattleType}
use denote.Param.Send.{IsSend, AllSend, Frees, owning_send, struct_send, sendable}
use denote.Struct.Owning.{shape, fields, to}
use denote.Struct.Struct.{exits_of}
use Rattle.core.specs.declared.alloc.Allocator.{Ghosts}
use Rattle.std_alloc.proofs.SendSync.{quiet}
use Rattle.item_cells.specs.contracts.memory.Permit as permit

pub send : (T A : RattleType) (g : Ghosts A.Denot) → IsSend A → Frees g g.dealloc_token → IsSend (permit.the_row T A g)
send T A g handle anywhere =
    let all : AllSend (fields (permit.the_type T A g)) = (search sendable, (handle, tt)) in
    owning_send (permit.the_type T A g) all (λ p. anywhere.frees p.alloc _ p.start)
    (λ k. quiet (to (permit.the_type T A g)) (exits_of k (fields (permit.the_type T A g))) ((struct_send (shape (permit.the_type T A g)) all).leaving k))
