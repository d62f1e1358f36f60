use Rattle.std.proofs.Common.{◌∙◌, sym, arith, subst}
use Rattle.btree_range_map.specs.Holding.{box_items}
use Rattle.btree_range_map.specs.Overlapping.{AreOverlapping}
use Rattle.range_handles.proofs.Fills.{none_filled}
use Rattle.range_handles.proofs.reads.overlapping.Goals as goal

pub returns-clause-read : goal.returns-clause-read
returns-clause-read g c = λ full.
    let order = g.K.MaybeBounded.order in (
      c.fill.new.source,
      subst (AreOverlapping order (box_items c.args.stored.now) c.args.range)
          c.fill.ensures.shown (c.within-items.ensures.items full),
      c.fill.ensures.all,
    )

pub returns-clause-empty : goal.returns-clause-empty
returns-clause-empty g c = λ empty.
    none_filled g.E.Shown.said c.fill.new.slots c.fill.result c.fill.new.source (omega arith)
    (sym (c.within-items.ensures.empty empty) ∙ c.fill.ensures.shown)
