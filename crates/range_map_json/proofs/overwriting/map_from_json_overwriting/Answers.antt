use Rattle.std.proofs.Common.{refl, ap, ◌∙◌, map, arith, []}
use Rattle.range_map.proofs.ExtendedLists.{none_bound_after, one_bound_after}
use Rattle.range_map.proofs.StoredLists.{stored_canonical}
use Rattle.range_map_json.specs.Overwriting.{fault_of_elements}
use Rattle.range_map_json.proofs.ElementLoop.{one_fails, one_read, reading_begun, reading_ended}
use Rattle.range_map_json.proofs.overwriting.map_from_json_overwriting.Goals as goal

pub loop-index-init : goal.loop-index-init
loop-index-init g c =
    reading_begun c.new-map.ensures refl
    (none_bound_after g.K.MaybeBounded.order g.V.PartialEq.eq [])

pub loop-index-preserved : goal.loop-index-preserved
loop-index-preserved g c =
    let h = c.loop-index.invariant in
    let item = c.in_ok-item.ensures in
    let x = c.in_ok-item.item in
    let done = c.in_ok-overwrite_element.ensures in
    one_read c.in_ok-elements.elements.now c.loop-index.index c.index-elements-index.result
    (omega (arith, c.loop-index-test.true, c.loop-index.auto.index-end)) c.index-elements-index.is h
    g.met.K.PartialEnum.lawful g.met.V.Eq.laws x refl item.sound item.read
    c.overwrite_element.ensures.known done.frame c.overwrite_element.ensures.canonical.stored
    (one_bound_after g.K.MaybeBounded.order g.V.PartialEq.eq [] (g.C.Storage.items c.loop-index.map)
    (g.C.Storage.items c.overwrite_element.new.map) h.elements x.key x.value h.bound done.bound)

pub returns-in_err-item-clause-fault : goal.returns-in_err-item-clause-fault
returns-in_err-item-clause-fault g c =
    grind (
      arith,
      c.in_err-item.ensures.fault,
      c.in_ok-elements.ensures.found,
      c.from_residual-in_err-item.ensures,
      one_fails c.in_ok-elements.elements.now c.loop-index.index
          c.index-elements-index.result
          (omega (arith, c.loop-index-test.true, c.loop-index.auto.index-end)) c.index-elements-index.is
          c.loop-index.invariant {e = c.in_err-item.field-0.0},
    )

pub returns : goal.returns
returns g c =
    let vs = c.in_ok-elements.elements.now in
    let whole =
    reading_ended vs c.loop-index.index c.loop-index-test.false c.loop-index.invariant in
    record {
      read = record {
        ds = map g.J.JsonTree.content vs;
        elements = whole.elements;
        whole = c.in_ok-elements.ensures.found;
        read = whole.read;
        known = whole.known;
        bound = whole.bound;
        kept = whole.kept;
      };
      canonical = stored_canonical g.met.K.PartialEnum.lawful g.met.V.Eq.laws _ whole.form;
      sound =
          ap (fault_of_elements g.K.Json.reads g.V.Json.reads) c.in_ok-elements.ensures.found
          ∙ whole.sound;
      fault = tt;
    }
