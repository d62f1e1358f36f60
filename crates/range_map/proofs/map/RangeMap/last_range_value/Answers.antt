use Rattle.range_reads.proofs.Chunks.{last_given}
use Rattle.range_reads.specs.Iteration.{shown_item}
use Rattle.range_map.proofs.map.RangeMap.last_range_value.Goals as goal

pub returns : goal.returns
returns g c =
    record {
      last =
          rw (← c.iter.ensures.items)
          (last_given shown_item _ _ c.next_back.result c.next_back.ensures.steps);
    }
