use Rattle.std.proofs.Common.{◌≡◌, ◌+◌, ℕ, length}
use Rattle.std.specs.Prelude.{vec_capacity}
use Rattle.range_nodes.specs.Rows.{row_of, joined, AreSegments}
use Rattle.range_nodes.proofs.rows.Rows.reserve.Given as goal

abbrev pub invariant-loop : goal.invariant-loop
invariant-loop g l =
    let was = l.initial.self-inside in
    let now = l.self-inside in
    record {
      many : length now.segments.items ≡ length was.segments.items + l.counter;
      capacity : vec_capacity now.segments ≡ vec_capacity was.segments;
      all : AreSegments now.segments.items;
      kept : (k : ℕ) → row_of (joined now.segments.items) k ≡ row_of (joined was.segments.items) k;
    }
