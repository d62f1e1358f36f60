use Rattle.btree_range_map.specs.Counted.{counted_complete}
use Rattle.btree_range_map.specs.Holding.{box_items}
use Rattle.btree_range_map.specs.Unsigned.{unsigned_counted}
use Rattle.tour.specs.Coverage.{Bytes}
use Rattle.tour.proofs.Bytes.{whole_is}
use Rattle.tour.proofs.downloads.Coverage.is_whole.Goals as goal

pub returns : goal.returns
returns c =
    let bytes : Bytes = record { size = c.self.inside.size; come = box_items c.self.inside.come } in
    let whole = whole_is bytes c.self.invariant.0 in
    let complete = counted_complete (unsigned_counted 18446744073709551615) in
    rw (← c.self.view_is) (
      λ yes. whole.0 (c.covers.ensures.held yes),
      λ all. c.covers.ensures.complete complete (whole.1 all),
    )
