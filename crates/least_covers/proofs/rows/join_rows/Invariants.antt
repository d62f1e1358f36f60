use Rattle.std.proofs.Common.{◌≡◌, ◌+◌, length}
use Rattle.least_covers.specs.Rows.{IsJoinedSoFar}
use Rattle.least_covers.proofs.rows.join_rows.Given as goal

-- the row up to fewer prefixes
abbrev pub invariant-loop-prefixes : goal.invariant-loop-prefixes
invariant-loop-prefixes l = record {
  so_far : IsJoinedSoFar l.room l.low l.high l.shares.items l.row.items;
  length : length l.row.items + 1 ≡ l.prefixes;
}
