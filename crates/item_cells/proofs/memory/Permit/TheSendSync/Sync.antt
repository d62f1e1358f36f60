use denote.RattleType.{RattleType}
use denote.Memory.{raw_all}
use denote.Param.Send.{IsSend, IsSync, Frees, whole-keyless}
use Rattle.core.specs.declared.alloc.Allocator.{Ghosts}
use Rattle.item_cells.specs.contracts.memory.Permit as permit
use Rattle.item_cells.proofs.memory.Permit.TheSendSync.Send.{send}

pub sync : (T A : RattleType) (g : Ghosts A.Denot) → IsSend A → Frees g g.dealloc_token → IsSync (permit.the_row T A g)
sync T A g handle anywhere =
    let row = permit.the_row T A g in
    record { shared = λ p b o κ q. whole-keyless (raw_all row.mir) row.own_val (send T A g handle anywhere).owned q p b o }
