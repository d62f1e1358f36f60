use Rattle.range_reads.proofs.Chunks.{first_given}
use Rattle.range_reads.specs.Iteration.{shown_item}
use Rattle.range_map.proofs.map.RangeMap.first_range_value.Goals as goal

pub returns : goal.returns
returns g c =
    record {
      first =
          rw (← c.iter.ensures.items)
          (first_given shown_item _ _ c.next.result c.next.ensures.steps);
    }
