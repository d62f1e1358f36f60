-- What a seal owns: what a box of a collection owns, or nothing.
use base.Fml.{Fml, ftrue}
use base.Stored.{Coded}
use denote.RawPtr.{Ptr}
use Rattle.std.specs.Prelude.{Option, Some, None}
use Rattle.std.specs.Coded.{coded_option}
use Rattle.std.specs.Box.Ownership.{box_owns}
use Rattle.std.specs.Global.{Global}
use Rattle.std_heap.specs.contracts.GlobalAllocator.TheImpl.{ghosts}
use Rattle.range_handles.specs.contracts.collection.Collection.{the_row}

abbrev pub seal_owns : Global → Ptr → Option the_row.Denot → Fml
seal_owns alloc ptr None = ftrue
seal_owns alloc ptr (Some x) = box_owns (ghosts.dealloc_token alloc) the_row ptr x

abbrev pub held_coded : Coded (Option the_row.Denot)
held_coded = coded_option the_row.coded
