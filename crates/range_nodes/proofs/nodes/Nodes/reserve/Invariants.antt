use Rattle.std.proofs.Common.{◌≡◌, ◌≤◌, length}
use Rattle.std.specs.VecDeque.{deque_capacity}
use Rattle.range_nodes.specs.Heap.{SameNodes}
use Rattle.range_nodes.specs.Spares.{heap_of, IsWhole}
use Rattle.range_nodes.proofs.nodes.Nodes.reserve.Given as goal

abbrev pub invariant-loop-number : goal.invariant-loop-number
invariant-loop-number g l =
    let was = l.initial.self-inside in
    let now = l.self-inside in
    record {
      few : l.number ≤ l.many;
      next : l.number ≡ length now.children.lists;
      room : l.many ≤ now.children.capacity;
      places : l.many ≤ deque_capacity now.spares;
      rows : l.many ≤ length now.rows;
      whole : IsWhole now.children.lists now.rows now.spares.items;
      kept : SameNodes (heap_of was.children.lists was.rows was.spares.items)
          (heap_of now.children.lists now.rows now.spares.items);
    }
