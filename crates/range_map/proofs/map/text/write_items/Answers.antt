use Rattle.range_map.proofs.Common.{arith, common_steps, subst, rules, ◌≡◌, ◌∷◌, IsOk, AnyRange, Item}
use Rattle.range_map.proofs.WrittenItems.{HasShown, shown_none, shown_more}
use Rattle.range_map.proofs.map.text.write_items.Goals as goal

pub loop-range-init : goal.loop-range-init
loop-range-init g c = grind (arith, common_steps, shown_none)

pub loop-range-preserved : goal.loop-range-preserved
loop-range-preserved g c =
    let all = g.C.Storage.items c.args.stored.now in
    let left = c.next.new.self in
    let item : Item (AnyRange g.row.K.Denot) g.row.V.Denot =
    record { key = c.in-Some.range.now; value = c.in-Some.value.now } in
    let step : c.loop-range.items ≡ item ∷ left = c.in-Some.ensures.steps in
    let ok : IsOk c.write_item.result = search rules in
    let shown =
    subst (λ items.
    HasShown g.K.Debug.debug_output g.V.Debug.debug_output g.W.Write.write_str_gives all
    items c.args.f.now c.loop-range.f) step c.loop-range.invariant in
    shown_more g.K.Debug.debug_output g.V.Debug.debug_output g.W.Write.write_str_gives all left item
    c.args.f.now c.loop-range.f c.write_item.new.f c.write_item.result shown c.write_item.ensures ok
