use Rattle.std.proofs.Common.{◌∙◌, ap, subst, sym, reverse, take}
use Rattle.std.proofs.lemmas.List.{reverse-reverse}
use Rattle.btree_range_map.specs.Holding.{box_items}
use Rattle.btree_range_map.specs.Overlapping.{AreOverlapping}
use Rattle.range_ffi.specs.Flags.{upto_key}
use Rattle.range_handles.proofs.Fills.{from_the_back}
use Rattle.range_handles.proofs.reads.read_back.Goals as goal

pub returns-clause-read : goal.returns-clause-read
returns-clause-read g c =
    let order = g.K.MaybeBounded.order in
    let left = c.fill.new.source.items in
    let written = take c.fill.result c.fill.new.slots in (
      left,
      subst (AreOverlapping order (box_items c.args.stored.now) (upto_key c.args.key))
          (from_the_back g.E.Shown.said written c.upto-items.result.items left c.fill.ensures.shown)
          c.upto-items.ensures,
      λ fewer. sym (reverse-reverse left) ∙ ap reverse (c.fill.ensures.all fewer),
    )
