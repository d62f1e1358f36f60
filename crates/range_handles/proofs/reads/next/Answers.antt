use Rattle.std.proofs.Common.{subst}
use Rattle.btree_range_map.specs.Holding.{box_items}
use Rattle.btree_range_map.specs.Overlapping.{AreOverlapping}
use Rattle.range_ffi.specs.Flags.{from_key}
use Rattle.range_handles.proofs.reads.next.Goals as goal

pub returns-clause-next : goal.returns-clause-next
returns-clause-next g c = λ done. (
  c.fill_one.new.source,
  subst
      (AreOverlapping g.K.MaybeBounded.order (box_items c.args.stored.now) (from_key c.args.key))
      (c.fill_one.ensures.shown done) c.from.ensures,
)

pub returns-clause-none : goal.returns-clause-none
returns-clause-none g c = λ none.
    subst (AreOverlapping g.K.MaybeBounded.order (box_items c.args.stored.now) (from_key c.args.key))
    (c.fill_one.ensures.none none) c.from.ensures
