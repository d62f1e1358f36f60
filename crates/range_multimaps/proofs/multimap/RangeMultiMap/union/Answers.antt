use Rattle.range_algebra.specs.declared.any.AnyRange.{AnyRange}
use Rattle.range_store.specs.declared.storage.Item.{Item}
use Rattle.range_multimaps.specs.Pairs.{HasPairsOfEither}
use Rattle.range_multimaps.proofs.PairsTogether.{none_united, one_united, next_is_full}
use Rattle.range_map.proofs.PartWay.{set_out, one_done, arrived}
use Rattle.range_multimaps.proofs.multimap.RangeMultiMap.union.Goals as goal

pub loop-range-init : goal.loop-range-init
loop-range-init g c =
    let order = g.K.MaybeBounded.order in
    let has = g.S.SetMut.has in
    let items = g.C.Storage.items c.args.self.now in
    let copy = g.C.Storage.items c.in_ok-new.new in
    rw c.iter-items.ensures.items
    (set_out (λ done. HasPairsOfEither order has items done copy)
    (g.D.Storage.items c.args.other.now)
    (none_united order has g.met.K.PartialEnum.lawful g.S.PartialEq.eq g.met.S.SetMut.equal_same
    copy
    items c.in_ok-new.ensures.equal))

pub loop-range-preserved : goal.loop-range-preserved
loop-range-preserved g c =
    let order = g.K.MaybeBounded.order in
    let has = g.S.SetMut.has in
    let items = g.C.Storage.items in
    let first = items c.args.self.now in
    let before = items c.loop-range.new in
    let after = items c.insert_values.new.self in
    let item : Item (AnyRange g.row.K.Denot) g.row.S.Denot =
    record { key = c.in-Some.range.now; value = c.in-Some.values.now } in
    one_done {Q = λ done. HasPairsOfEither order has first done after} c.in-Some.ensures.steps
    (λ done split so_far. one_united order has first before after done item so_far
    c.in_ok-insert_values.ensures) c.loop-range.invariant

pub returns-clause-pairs : goal.returns-clause-pairs
returns-clause-pairs g c =
    arrived c.in_default.ensures.steps.0 c.loop-range.invariant

pub insert_values-requires-clause-nonempty : goal.insert_values-requires-clause-nonempty
insert_values-requires-clause-nonempty g c =
    let item : Item (AnyRange g.row.K.Denot) g.row.S.Denot =
    record { key = c.in-Some.range.now; value = c.in-Some.values.now } in
    next_is_full g.S.MaybeEmpty.is_void _ (g.D.Storage.items c.args.other.now) c.loop-range.items
    c.next.new.self item (rw (← c.iter-items.ensures.items) c.iter-items.ensures.nonempty)
    c.in-Some.ensures.steps c.loop-range.invariant
