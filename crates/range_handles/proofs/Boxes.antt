-- The boxes that seals hold.
use mathlib.Core.Path.{◌≡◌, refl}
use mir.Syntax.{impl, tnil, dnil}
use mathlib.Core.List.{[]}
use Rattle.std.specs.Prelude.{Option, Some, None, IsSome}
use Rattle.std.proofs.lemmas.Bool.{false≢true}
use Rattle.std_alloc.proofs.BoxSteps.Form.{Bx}
use Rattle.std_heap.specs.contracts.Global as Heap
use Rattle.std_heap.specs.contracts.GlobalAllocator.TheImpl.{ghosts, dict}
use Rattle.std_heap.proofs.Global.TheLaws as heap
use Rattle.range_handles.specs.contracts.collection.Collection as Collection
use Rattle.range_handles.proofs.collection.Collection.TheLaws as collection

abbrev pub boxes : Bx
boxes = record {
  row = Collection.the_row;
  laws = collection.the_row_laws;
  al = record { row = Heap.the_row; laws = heap.the_row_laws; g = ghosts; d = dict; drops = impl [] tnil dnil };
}

-- what a seal with a box holds
pub inside : {A : Type 0} (held : Option A) → IsSome held → (x : A) × (held ≡ Some x)
inside (Some x) some = (x, refl)
inside None some = absurd (false≢true some)
