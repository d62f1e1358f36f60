use Rattle.std.proofs.lemmas.Result.{on_ok_weaker}
use Rattle.rangecalc.specs.Replies.{SpellsGap}
use Rattle.line_program.proofs.Listing.{listed, listing_more, listing_none}
use Rattle.rangecalc.proofs.listing.write_free.Goals as goal

pub loop-gap-init : goal.loop-gap-init
loop-gap-init g c = listing_none SpellsGap c.args.gaps (g.W.Write.contents c.args.out.now)

pub loop-gap-preserved : goal.loop-gap-preserved
loop-gap-preserved g c =
    listing_more SpellsGap c.loop-gap.invariant c.in-Some.ensures.steps c.in_ok-write_gap.ensures

pub returns : goal.returns
returns g c =
    on_ok_weaker c.write_none.result
    (listed SpellsGap _ _ _ c.loop-gap.invariant c.in_default.ensures.steps.0)
    c.write_none.ensures
