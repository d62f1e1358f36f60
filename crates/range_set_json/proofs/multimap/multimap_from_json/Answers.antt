use Rattle.std.proofs.Common.{refl, rules, map, arith}
use Rattle.std.specs.Cmp.{on_equiv}
use Rattle.std.specs.Cmp.Lexicographic.{lists_equiv}
use Rattle.range_json.specs.ValueSets.{reads_some_values, same_values, AreValuesRead}
use Rattle.range_map.proofs.StoredLists.{stored_canonical}
use Rattle.range_map_json.proofs.BoundElements.{none_bound, one_more_alike}
use Rattle.range_map_json.proofs.ElementLoop.{one_read, reading_begun, reading_ended}
use Rattle.range_map_json.proofs.MapReading.{are_read, map_fails, map_meets}
use Rattle.range_set_json.proofs.multimap.multimap_from_json.Goals as goal

pub loop-index-init : goal.loop-index-init
loop-index-init g c =
    reading_begun c.new-multimap.ensures refl (none_bound g.K.MaybeBounded.order)

pub loop-index-preserved : goal.loop-index-preserved
loop-index-preserved g c =
    let h = c.loop-index.invariant in
    let item = c.in_ok-item.ensures in
    let done = c.in_ok-insert_values.ensures in
    let items = g.C.Storage.items in
    one_read c.in_ok-elements.elements.now c.loop-index.index c.index-elements-index.result
    (omega (arith, c.loop-index-test.true, c.loop-index.auto.index-end)) c.index-elements-index.is h
    g.met.K.PartialEnum.lawful
    (on_equiv (λ s. s.keys) (lists_equiv g.met.V.Eq.laws)) c.in_ok-item.item refl item.sound
    item.read done.known done.frame done.canonical.stored (one_more_alike g.K.MaybeBounded.order
    g.met.K.PartialEnum.lawful
    (same_values g.V.PartialEq.eq) (items c.loop-index.multimap)
    (items c.insert_values.new.multimap) h.elements c.in_ok-item.item h.bound (record {
      known = done.known;
      apart = done.apart;
      bound = done.bound;
      meets = done.meets;
      frame = done.frame;
      unchanged = done.empty_unchanged;
    }))

pub returns-in_err-item-clause-fault : goal.returns-in_err-item-clause-fault
returns-in_err-item-clause-fault g c =
    map_fails g.K.Json.reads (reads_some_values g.V.Json.reads)
    (AreValuesRead g.V.Ord.cmp g.V.Json.is_read) (g.J.JsonTree.content c.args.value.now)
    c.in_ok-elements.elements.now c.loop-index.index c.index-elements-index.result
    (omega (arith, c.loop-index-test.true, c.loop-index.auto.index-end)) c.index-elements-index.is
    c.loop-index.invariant c.in_ok-elements.ensures.found c.from_residual-in_err-item.result
    (search rules) c.in_err-item.ensures.fault

pub returns-in_err-insert_values-clause-fault : goal.returns-in_err-insert_values-clause-fault
returns-in_err-insert_values-clause-fault g c =
    map_meets g.K.Json.reads (reads_some_values g.V.Json.reads)
    (AreValuesRead g.V.Ord.cmp g.V.Json.is_read) (g.J.JsonTree.content c.args.value.now)
    c.in_ok-elements.elements.now c.loop-index.index c.index-elements-index.result
    (omega (arith, c.loop-index-test.true, c.loop-index.auto.index-end)) c.index-elements-index.is
    c.loop-index.invariant c.in_ok-elements.ensures.found
    c.from_residual-in_err-insert_values.result (search rules) c.in_ok-item.item
    c.in_ok-item.ensures.sound c.in_ok-item.ensures.read c.insert_values.ensures.known
    c.in_err-insert_values.ensures.met

pub returns-clause-read : goal.returns-clause-read
returns-clause-read g c =
    let vs = c.in_ok-elements.elements.now in
    let whole =
    reading_ended vs c.loop-index.index c.loop-index-test.false c.loop-index.invariant in
    record {
      ds = map g.J.JsonTree.content vs;
      elements = whole.elements;
      whole = c.in_ok-elements.ensures.found;
      read = are_read whole;
      bound = whole.bound.alike;
      kept = whole.kept;
    }

pub returns-clause-canonical : goal.returns-clause-canonical
returns-clause-canonical g c =
    stored_canonical g.met.K.PartialEnum.lawful
    (on_equiv (λ s. s.keys) (lists_equiv g.met.V.Eq.laws)) _ c.loop-index.invariant.form
