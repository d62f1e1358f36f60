use Rattle.std.proofs.Common.{length}
use Rattle.rangecalc.specs.Replies.{SpellsPiece}
use Rattle.line_program.proofs.Listing.{IsListing}
use Rattle.rangecalc.proofs.listing.write_pieces.Given as goal

abbrev pub invariant-loop-piece : goal.invariant-loop-piece
invariant-loop-piece g l =
    IsListing SpellsPiece l.fn.pieces l.pieces (g.W.Write.contents l.fn.out)
    (g.W.Write.contents l.out)
    l.is_empty

abbrev pub decreases-loop-piece : goal.decreases-loop-piece
decreases-loop-piece g l = length l.pieces
