use Rattle.std.proofs.Common.{refl}
use Rattle.rangerun.specs.Replies.{SpellsPart}
use Rattle.line_program.proofs.Listing.{shown_none, shown_more, shown_all}
use Rattle.rangerun.proofs.reply.write_parts.Goals as goal

pub loop-range-init : goal.loop-range-init
loop-range-init g c = record {
  nonempty = c.iter-parts.ensures.canonical.stored.nonempty;
  shown = rw c.iter-parts.ensures.items
      (shown_none (SpellsPart g.K.MaybeBounded.order g.K.NumberKey.as_number) _ _);
}

pub loop-range-preserved : goal.loop-range-preserved
loop-range-preserved g c =
    let span = c.in_ok-span.span in record {
      nonempty = (rw c.in-Some.ensures.steps at c.loop-range.invariant.nonempty).1;
      shown = shown_more (SpellsPart g.K.MaybeBounded.order g.K.NumberKey.as_number) _ _ _ _ _ _
          (rw c.in-Some.ensures.steps at c.loop-range.invariant.shown)
          (_, (span.0, span.1, c.in_ok-span.ensures, refl), c.in_ok-write_part.ensures);
    }

pub returns : goal.returns
returns g c = shown_all (SpellsPart g.K.MaybeBounded.order g.K.NumberKey.as_number) _ _ _
    (rw c.in_default.ensures.steps.0 at c.loop-range.invariant.shown)
