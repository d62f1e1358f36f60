use Rattle.std.proofs.lemmas.Result.{on_ok_weaker}
use Rattle.rangerun.specs.Replies.{SpellsSpan}
use Rattle.line_program.proofs.Listing.{appends_none, listed, listing_more, listing_none}
use Rattle.rangerun.proofs.reply.write_gaps.Goals as goal

pub loop-gap-init : goal.loop-gap-init
loop-gap-init g c = record {
  nonempty = c.requires;
  listing = listing_none (SpellsSpan g.K.MaybeBounded.order g.K.NumberKey.as_number) c.args.gaps
      (g.W.Write.contents c.args.out.now);
}

pub loop-gap-preserved : goal.loop-gap-preserved
loop-gap-preserved g c = record {
  nonempty = (rw c.in-Some.ensures.steps at c.loop-gap.invariant.nonempty).1;
  listing = listing_more _ c.loop-gap.invariant.listing c.in-Some.ensures.steps
      c.in_ok-write_gap.ensures;
}

pub returns-then-is_full : goal.returns-then-is_full
returns-then-is_full g c = on_ok_weaker c.write_all.result
    (listed _ _ _ _ (rw c.if-is_full.true at c.loop-gap.invariant.listing)
    c.in_default.ensures.steps.0)
    c.write_all.ensures.bytes

pub returns : goal.returns
returns g c = listed _ _ _ _ (rw c.if-is_full.false at c.loop-gap.invariant.listing)
    c.in_default.ensures.steps.0 (appends_none _)
