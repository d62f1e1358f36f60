use Rattle.std.proofs.lemmas.Result.{on_ok_weaker}
use Rattle.rangecalc.specs.Replies.{SpellsPiece}
use Rattle.line_program.proofs.Listing.{listed, listing_more, listing_none}
use Rattle.rangecalc.proofs.listing.write_pieces.Goals as goal

pub loop-piece-init : goal.loop-piece-init
loop-piece-init g c = listing_none SpellsPiece c.args.pieces (g.W.Write.contents c.args.out.now)

pub loop-piece-preserved : goal.loop-piece-preserved
loop-piece-preserved g c =
    listing_more SpellsPiece c.loop-piece.invariant c.in-Some.ensures.steps
    c.in_ok-write_piece.ensures

pub returns : goal.returns
returns g c =
    on_ok_weaker c.write_none.result
    (listed SpellsPiece _ _ _ c.loop-piece.invariant c.in_default.ensures.steps.0)
    c.write_none.ensures
