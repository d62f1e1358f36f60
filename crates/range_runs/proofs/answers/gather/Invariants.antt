use Rattle.range_runs.proofs.Common.{drop, length, take, IsEquivalence, IsLawful, rank_or_len, pieces_of, KeepsSpelling}
use Rattle.range_runs.proofs.PieceAnswers.{IsUnderway}
use Rattle.range_runs.proofs.answers.gather.Given as goal

abbrev pub invariant-loop-part : goal.invariant-loop-part
invariant-loop-part g l =
    let order = g.K.MaybeBounded.order in
    let same = g.V.PartialEq.eq in
    let items = g.C.Storage.items l.stored in
    let place = rank_or_len (g.C.Storage.rank l.stored) (length items) l.window.from in
    record {
      spelled : KeepsSpelling order items l.middle.items;
      underway : (lawful : IsLawful order) (equal : IsEquivalence same) → IsUnderway order lawful
          same equal l.range g.F.Fn l.f (pieces_of order l.range
          (take l.window.count (drop place items))) l.pieces l.middle.items;
    }

abbrev pub decreases-loop-part : goal.decreases-loop-part
decreases-loop-part g l = length l.pieces
