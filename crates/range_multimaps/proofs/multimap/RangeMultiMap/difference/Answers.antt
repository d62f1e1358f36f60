use Rattle.range_algebra.specs.declared.any.AnyRange.{AnyRange}
use Rattle.range_store.specs.declared.storage.Item.{Item}
use Rattle.range_multimaps.specs.Pairs.{HasPairsOfFirstAlone}
use Rattle.range_multimaps.proofs.PairsTogether.{none_parted, one_parted}
use Rattle.range_map.proofs.PartWay.{set_out, one_done, arrived}
use Rattle.range_multimaps.proofs.multimap.RangeMultiMap.difference.Goals as goal

pub loop-range-init : goal.loop-range-init
loop-range-init g c =
    let order = g.K.MaybeBounded.order in
    let has = g.S.SetMut.has in
    let items = g.C.Storage.items c.args.self.now in
    let copy = g.C.Storage.items c.in_ok-new.new in
    rw c.iter-items.ensures.items
    (set_out (λ done. HasPairsOfFirstAlone order has items done copy)
    (g.D.Storage.items c.args.other.now)
    (none_parted order has g.met.K.PartialEnum.lawful g.S.PartialEq.eq g.met.S.SetMut.equal_same
    copy
    items c.in_ok-new.ensures.equal))

pub loop-range-preserved : goal.loop-range-preserved
loop-range-preserved g c =
    let order = g.K.MaybeBounded.order in
    let has = g.S.SetMut.has in
    let items = g.C.Storage.items in
    let first = items c.args.self.now in
    let before = items c.loop-range.new in
    let after = items c.remove_values.new.self in
    let item : Item (AnyRange g.row.K.Denot) g.row.S.Denot =
    record { key = c.in-Some.range.now; value = c.in-Some.values.now } in
    one_done {Q = λ done. HasPairsOfFirstAlone order has first done after} c.in-Some.ensures.steps
    (λ done split so_far. one_parted order has first before after done item so_far
    c.in_ok-remove_values.ensures) c.loop-range.invariant

pub returns-clause-pairs : goal.returns-clause-pairs
returns-clause-pairs g c =
    arrived c.in_default.ensures.steps.0 c.loop-range.invariant
