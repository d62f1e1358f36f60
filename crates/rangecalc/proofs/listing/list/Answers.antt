use Rattle.line_program.proofs.Listing.{writes_as}
use Rattle.rangecalc.proofs.listing.list.Goals as goal

pub returns-in-Show : goal.returns-in-Show
returns-in-Show g c = rw (c.in-Show.is, ← c.iter.ensures.items) c.write_items.ensures

pub returns-in-Gaps : goal.returns-in-Gaps
returns-in-Gaps g c = rw c.in-Gaps.is
    (writes_as c.write_gaps.result _ _ _ _
    (λ text lines. (c.gaps.result, c.gaps.ensures.gaps, lines))
    c.write_gaps.ensures)

pub returns-in-Over : goal.returns-in-Over
returns-in-Over g c = rw c.in-Over.is
    (writes_as c.write_met.result _ _ _ _
    (λ text lines. (
      c.overlapping.result,
      (c.overlapping.ensures.empty, c.overlapping.ensures.items),
      lines,
    ))
    c.write_met.ensures)

pub returns-in-Free : goal.returns-in-Free
returns-in-Free g c = rw c.in-Free.is
    (writes_as c.write_free.result _ _ _ _
    (λ text lines. (c.gaps_within.result, c.gaps_within.ensures.gaps, lines))
    c.write_free.ensures)

pub returns-in-Pieces : goal.returns-in-Pieces
returns-in-Pieces g c = rw c.in-Pieces.is
    (writes_as c.write_pieces.result _ _ _ _
    (λ text lines. (c.pieces.result, c.pieces.ensures.pieces, lines))
    c.write_pieces.ensures)
