use Rattle.std.proofs.Common.{◌≡◌, ◌+◌, [], ◌∷◌, ap, length, arith, refl, length-append}
use Rattle.range_nodes.specs.Heap.{HasRoomFor, SameNodes, node_count}
use Rattle.range_nodes.specs.Spares.{IsWhole, heap_of}
use Rattle.range_nodes.proofs.Spares.{added, counted, roomier, spares_left}
use Rattle.range_nodes.proofs.nodes.Nodes.reserve.Goals as goal
use Rattle.range_nodes.proofs.nodes.Nodes.reserve.Given.{Over}
use Rattle.range_nodes.proofs.nodes.Nodes.reserve.Goals.{Else-missing-eq0, After-reserve-3, In_ok-many}

pub returns-then-missing-eq0-clause-room : goal.returns-then-missing-eq0-clause-room
returns-then-missing-eq0-clause-room g c =
    grind (arith, counted)

too_few : {A : Type 0} (g : Over) (c : Else-missing-eq0 g)
    → HasRoomFor c.args.self.now c.args.additional → A
too_few g c room = absurd (omega (
  arith,
  spares_left c.self.invariant.0 c.args.additional (rw (← c.self.view_is) at room),
))

many_is : (g : Over) (c : In_ok-many g) → c.in_ok-many.many
    ≡ length c.self.inside.children.lists + c.saturating_sub-missing.result
many_is g c = grind arith

larger : (g : Over) (c : After-reserve-3 g)
    → IsWhole c.reserve.new.self.lists c.reserve-3.new.self c.reserve-2.new.self.items
    × SameNodes c.args.self.now (heap_of c.reserve.new.self.lists c.reserve-3.new.self
    c.reserve-2.new.self.items)
larger g c =
    let rows = c.reserve-3.ensures in
    rw (← c.self.view_is, c.reserve.ensures.kept, c.reserve-2.ensures.items)
    (roomier c.reserve-3.new.self c.self.invariant.0 rows.no_less rows.kept)

pub returns-in_err-reserve-clause-succeeds : goal.returns-in_err-reserve-clause-succeeds
returns-in_err-reserve-clause-succeeds g c room =
    too_few g (goal.at.returns-in_err-reserve-clause-succeeds g c).Else-missing-eq0 room

pub overflow_sub-many : goal.overflow_sub-many
overflow_sub-many g c =
    omega (
      arith,
      counted c.self.invariant.0,
      c.len-3.ensures,
      many_is g (goal.at.overflow_sub-many g c).In_ok-many,
    )

pub returns-in_err-reserve-2-clause-succeeds : goal.returns-in_err-reserve-2-clause-succeeds
returns-in_err-reserve-2-clause-succeeds g c room =
    too_few g (goal.at.returns-in_err-reserve-2-clause-succeeds g c).Else-missing-eq0 room

pub returns-in_err-reserve-3-clause-succeeds : goal.returns-in_err-reserve-3-clause-succeeds
returns-in_err-reserve-3-clause-succeeds g c room =
    too_few g (goal.at.returns-in_err-reserve-3-clause-succeeds g c).Else-missing-eq0 room

pub returns-in_err-reserve-3-clause-kept : goal.returns-in_err-reserve-3-clause-kept
returns-in_err-reserve-3-clause-kept g c =
    (larger g (goal.at.returns-in_err-reserve-3-clause-kept g c).After-reserve-3).1

pub loop-number-init : goal.loop-number-init
loop-number-init g c =
    let a = goal.at.loop-number-init g c in
    let larger = larger g a.After-reserve-3 in
    let many = many_is g a.In_ok-many in
    record {
      few = omega (arith, many, c.len-number.ensures, ap length c.reserve.ensures.kept);
      next = c.len-number.ensures;
      room = c.in_ok-reserve.ensures.room;
      places = omega (
        arith,
        c.in_ok-reserve-2.ensures.ok,
        c.len-3.ensures,
        counted c.self.invariant.0,
        many,
      );
      rows = c.in_ok-reserve-3.ensures.there;
      whole = larger.0;
      kept = record { nodes = λ k. refl; len = refl };
    }

pub add-requires : goal.add-requires
add-requires g c =
    let was = c.loop-number.invariant in
    omega (arith, was.next, was.room, c.loop-number-test.true)

pub push_back_reserved-requires : goal.push_back_reserved-requires
push_back_reserved-requires g c =
    let was = c.loop-number.invariant in
    omega (arith, was.next, was.places, counted was.whole, c.loop-number-test.true)

pub loop-number-preserved : goal.loop-number-preserved
loop-number-preserved g c =
    let was = c.loop-number.invariant in
    let now = added was.whole c.loop-number.number was.next
    (omega (arith, was.rows, c.loop-number-test.true)) in
    let lists = c.add.ensures.lists in
    let spares = c.push_back_reserved.ensures.items in
    record {
      few = omega (arith, c.loop-number-test.true);
      next = omega (
        arith,
        was.next,
        ap length lists,
        length-append c.loop-number.self-inside.children.lists ([] ∷ []),
      );
      room = omega (arith, was.room, c.add.ensures.capacity);
      places = omega (arith, was.places, c.push_back_reserved.ensures.capacity);
      rows = was.rows;
      whole = rw (lists, spares) now.0;
      kept = rw (lists, spares) (grind arith);
    }

pub returns-clause-room : goal.returns-clause-room
returns-clause-room g c =
    let a = goal.at.returns-clause-room g c in
    let was = c.loop-number.invariant in
    omega (
      arith,
      was.next,
      c.loop-number-test.false,
      many_is g a.In_ok-many,
      counted c.self.invariant.0,
      was.kept.len,
      (larger g a.After-reserve-3).1.len,
      c.saturating_sub-missing.ensures,
      c.len.ensures,
      ap node_count c.self.view_is,
    )

pub returns-clause-kept : goal.returns-clause-kept
returns-clause-kept g c =
    let first = (larger g (goal.at.returns-clause-kept g c).After-reserve-3).1 in
    let was = c.loop-number.invariant.kept in
    grind arith
