use Rattle.range_bulk.proofs.Common.{◌≡◌, sym, true, ◌∷◌, [], get_or, take, rules, every_append, item_of}
use Rattle.range_bulk.proofs.SortedLists.{last_is, more_sorted, sorted_more, take_next}
use Rattle.range_bulk.proofs.sorted.first_fault.Goals as goal

pub returns-then-not-is_next-clause-fault : goal.returns-then-not-is_next-clause-fault
returns-then-not-is_next-clause-fault g c =
    let item = item_of g.R.AsRange.range in
    let place = c.loop-index.index in
    let pairs = c.args.pairs.now in
    let pair = get_or pairs place c.index-pairs-index.result in
    let was = c.loop-index.invariant in
    let more = take_next item pairs place c.index-pairs-index.result c.loop-index-test.true in (
      was.sorted,
      λ sorted.
          let next =
          more_sorted g.K.MaybeBounded.order (take place _) (item pair) (rw more at sorted) in
          let holds : c.is_next.result ≡ true =
          c.is_next.ensures.next.1 (rw (← was.last) at next) in
          absurd (cc),
    )

pub loop-index-preserved : goal.loop-index-preserved
loop-index-preserved g c =
    let order = g.K.MaybeBounded.order in
    let item = item_of g.R.AsRange.range in
    let place = c.loop-index.index in
    let pairs = c.args.pairs.now in
    let pair = get_or pairs place c.index-pairs-index.result in
    let front = take place _ in
    let was = c.loop-index.invariant in
    let more = take_next item pairs place c.index-pairs-index.result c.loop-index-test.true in
    let holds : c.is_next.result ≡ true = search rules in
    record {
      sorted =
          rw more (sorted_more order front (item pair) was.sorted
          (rw was.last at (c.is_next.ensures.next.0 holds)));
      known =
          rw more (every_append _ front (item pair ∷ []) was.known (c.is_next.ensures.known, tt));
      last = rw more (sym (last_is front (item pair)));
    }
