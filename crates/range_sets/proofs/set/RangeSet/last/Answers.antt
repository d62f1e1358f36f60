use Rattle.std.proofs.Common.{[], ◌∷◌, ap, ◌∙◌}
use Rattle.range_reads.specs.FreeRanges.{item_ranges}
use Rattle.range_reads.specs.Iteration.{shown_item}
use Rattle.range_sets.proofs.EndRanges.{item_ranges_append}
use Rattle.range_sets.proofs.set.RangeSet.last.Goals as goal

pub returns-in-Some : goal.returns-in-Some
returns-in-Some g c =
    let shown = c.in-Some.ensures.last in
    let item = shown_item (c.in-Some.range, c.in-Some.field-0-1) in
    rw (← c.self.view_is) record {
      last = (item_ranges shown.0, ap item_ranges shown.1 ∙ item_ranges_append shown.0 (item ∷ []));
    }
