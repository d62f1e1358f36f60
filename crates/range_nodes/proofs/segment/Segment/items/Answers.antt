use Rattle.std.proofs.Common.{arith, ◌≡◌}
use Rattle.range_nodes.specs.Rows.{row_of}
use Rattle.range_nodes.proofs.Segments.{run, run_read, seen}
use Rattle.range_nodes.proofs.segment.Segment.items.Goals as goal

pub items-requires : goal.items-requires
items-requires g c =
    let now = seen c.self.invariant c.self.view_is in
    rw c.row_len.ensures.len (run now.laid c.args.row (omega (arith, c.requires, now.many)))

pub returns-clause-items : goal.returns-clause-items
returns-clause-items g c =
    let now = seen c.self.invariant c.self.view_is in
    run_read now.laid c.args.row (omega (arith, c.requires, now.many)) c.items.result.now
    (rw c.row_len.ensures.len at c.items.ensures)

pub returns-clause-fits : goal.returns-clause-fits
returns-clause-fits g c =
    let now = seen c.self.invariant c.self.view_is in
    let is : c.items.result.now ≡ row_of c.args.self.now c.args.row =
    run_read now.laid c.args.row (omega (arith, c.requires, now.many)) c.items.result.now
    (rw c.row_len.ensures.len at c.items.ensures) in
    rw is (now.laid.fits c.args.row)
