use Rattle.range_nodes.proofs.Segments.{fresh_made}
use Rattle.range_nodes.proofs.segment.Segment.new.Goals as goal

pub invariant_of-result : goal.invariant_of-result
invariant_of-result g c = rw c.in_ok-cells.ensures fresh_made.0

pub returns : goal.returns
returns g c = rw c.in_ok-cells.ensures fresh_made.1
