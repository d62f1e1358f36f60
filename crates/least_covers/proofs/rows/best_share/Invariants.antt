use Rattle.least_covers.proofs.Joins.{IsBestSoFar}
use Rattle.least_covers.proofs.rows.best_share.Given as goal

-- the best share so far
abbrev pub invariant-loop-first : goal.invariant-loop-first
invariant-loop-first l =
    IsBestSoFar l.low l.high l.prefixes l.start l.first l.best.first l.best.added
