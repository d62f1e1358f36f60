-- What is written to the collection behind a seal.
use Rattle.std.specs.Prelude.{Some}
use Rattle.std.specs.Borrow.{Lends, MutBor, Fml}
use Rattle.range_handles.specs.declared.collection.Collection.{Collection}
use Rattle.range_handles.specs.declared.seal.Seal.{Seal}
use Rattle.range_handles.specs.contracts.collection.Collection as Home
use Rattle.range_handles.specs.contracts.seal.Seal as Sealed

abbrev pub with_held : Seal → Collection → Seal
with_held s x = record { ptr = s.ptr; alloc = s.alloc; held = Some x }

-- the seal ends with what was last behind the reference
abbrev pub LendsHeld : MutBor Seal → MutBor Collection → Fml
LendsHeld s r = Lends Sealed.the_row Home.the_row s r (with_held s.now)
