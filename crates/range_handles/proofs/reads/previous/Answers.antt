use Rattle.std.proofs.Common.{◌∷◌, [], subst}
use Rattle.btree_range_map.specs.Holding.{box_items}
use Rattle.btree_range_map.specs.Overlapping.{AreOverlapping}
use Rattle.range_ffi.specs.Flags.{upto_key}
use Rattle.range_handles.proofs.Fills.{from_the_back}
use Rattle.range_handles.proofs.reads.previous.Goals as goal

pub returns-clause-previous : goal.returns-clause-previous
returns-clause-previous g c = λ done.
    let left = c.fill_one.new.source.items in (
      left,
      subst (AreOverlapping g.K.MaybeBounded.order (box_items c.args.stored.now) (upto_key c.args.key))
          (from_the_back g.E.Shown.said (c.fill_one.new.slot ∷ []) c.upto.result.items left
          (c.fill_one.ensures.shown done))
          c.upto.ensures,
    )

pub returns-clause-none : goal.returns-clause-none
returns-clause-none g c = λ none.
    subst (AreOverlapping g.K.MaybeBounded.order (box_items c.args.stored.now) (upto_key c.args.key))
    (from_the_back g.E.Shown.said [] c.upto.result.items [] (c.fill_one.ensures.none none))
    c.upto.ensures
