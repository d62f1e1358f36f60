use Rattle.std.proofs.lemmas.Result.{on_ok_weaker}
use Rattle.rangecalc.specs.Replies.{SpellsItem}
use Rattle.line_program.proofs.Listing.{listed, listing_more, listing_none}
use Rattle.rangecalc.proofs.listing.write_met.Goals as goal

pub loop-range-init : goal.loop-range-init
loop-range-init g c = listing_none SpellsItem c.args.items (g.W.Write.contents c.args.out.now)

pub loop-range-preserved : goal.loop-range-preserved
loop-range-preserved g c =
    listing_more SpellsItem c.loop-range.invariant c.in-Some.ensures.steps
    c.in_ok-write_item.ensures

pub returns : goal.returns
returns g c =
    on_ok_weaker c.write_none.result
    (listed SpellsItem _ _ _ c.loop-range.invariant c.in_default.ensures.steps.0)
    c.write_none.ensures
