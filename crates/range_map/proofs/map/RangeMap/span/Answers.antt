use Rattle.range_reads.specs.Iteration.{shown_item}
use Rattle.range_map.proofs.map.RangeMap.span.Goals as goal

pub returns-in-Some-Some : goal.returns-in-Some-Some
returns-in-Some-Some g c =
    let first = shown_item (c.in-Some-Some.first, c.in-Some-Some.field-0-1-0) in
    let last = shown_item (c.in-Some-Some.last, c.in-Some-Some.field-0-1-1) in
    record {
      span = record {
        first = first;
        last = last;
        starts = c.in-Some-Some.ensures.first;
        ends = c.in-Some-Some.ensures'.last;
        is = cc (c.start_bound.ensures tt, c.end_bound.ensures tt);
      };
    }
