use Rattle.std.proofs.Common.{◌+◌, ◌-◌, ◌≤◌, ◌<◌, ◌∷◌, [], ℕ, length, inr, arith, length-append}
use Rattle.least_covers.specs.Rows.{IsShared, at}
use Rattle.least_covers.proofs.Joins.{joined_more}
use Rattle.least_covers.proofs.rows.join_rows.Goals as goal

pub loop-prefixes-preserved : goal.loop-prefixes-preserved
loop-prefixes-preserved c =
    let room = c.args.room in
    let low = c.args.low.now in
    let high = c.args.high.now in
    let row = c.loop-prefixes.row.items in
    let shares = c.loop-prefixes.shares.items in
    let best = c.best_share-best.result in
    let e = c.loop-prefixes.invariant.length in
    let more = length-append row (best.added ∷ []) in
    let new : IsShared room low high (length row + 1) best.first best.added =
    rw e (inr (c.best_share-best.ensures.some, c.best_share-best.ensures.rest, c.best_share-best.ensures.added)) in
    let least : (i : ℕ) → 1 ≤ i → i < length row + 1 → best.added ≤ at low i + at high (length row + 1 - i) =
    rw e c.best_share-best.ensures.least in
    rw (c.in_ok-push-3.ensures.items, c.in_ok-push-4.ensures.items) (record {
      so_far = joined_more room low high shares row best.first best.added c.loop-prefixes.invariant.so_far new least;
      length = omega arith;
    })
