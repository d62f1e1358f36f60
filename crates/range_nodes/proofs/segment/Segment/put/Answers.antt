use Rattle.std.proofs.Common.{◌+◌, arith}
use Rattle.range_nodes.proofs.Segments.{bare_at, filled, item_put, seen}
use Rattle.range_nodes.proofs.segment.Segment.put.Goals as goal

pub shift_up-requires-clause-filled : goal.shift_up-requires-clause-filled
shift_up-requires-clause-filled g c k low high =
    let laid = (seen c.self.invariant c.self.view_is).laid in
    filled laid c.args.row k (omega (arith, low)) (omega (arith, high, c.row_len-len.ensures.len))

pub shift_up-requires-clause-empty : goal.shift_up-requires-clause-empty
shift_up-requires-clause-empty g c =
    let laid = (seen c.self.invariant c.self.view_is).laid in
    bare_at laid c.args.row c.row_len-len.result (omega (arith, c.row_len-len.ensures.len))
    (omega (arith, c.row_len-len.ensures.len, c.requires.room))

pub invariant_of-self : goal.invariant_of-self
invariant_of-self g c =
    rw c.put.ensures
    ((item_put (seen c.self.invariant c.self.view_is) c.args.row c.args.index c.args.item
    (c.row_len-len.result + 1) c.requires.row c.requires.within c.requires.room
    (omega (arith, c.row_len-len.ensures.len))
    (rw c.row_len-len.ensures.len at c.shift_up.ensures.moved)
    (rw c.row_len-len.ensures.len at c.shift_up.ensures.others)).0)

pub returns : goal.returns
returns g c =
    rw c.put.ensures
    ((item_put (seen c.self.invariant c.self.view_is) c.args.row c.args.index c.args.item
    (c.row_len-len.result + 1) c.requires.row c.requires.within c.requires.room
    (omega (arith, c.row_len-len.ensures.len))
    (rw c.row_len-len.ensures.len at c.shift_up.ensures.moved)
    (rw c.row_len-len.ensures.len at c.shift_up.ensures.others)).1)
