use Rattle.std.proofs.Common.{arith}
use Rattle.range_nodes.proofs.Segments.{len_at, seen}
use Rattle.range_nodes.proofs.segment.Segment.row_len.Goals as goal

pub returns-clause-len : goal.returns-clause-len
returns-clause-len g c =
    let many = len_at (seen c.self.invariant c.self.view_is) c.args.row in
    grind arith

pub returns-clause-fits : goal.returns-clause-fits
returns-clause-fits g c =
    let now = seen c.self.invariant c.self.view_is in
    let many = len_at now c.args.row in
    let few = now.laid.fits c.args.row in
    grind arith
