use Rattle.std.proofs.Common.{refl, ap, ◌∙◌, List, ◌∷◌, [], map, inl, inr, arith}
use Rattle.std.proofs.lemmas.List.{map-append}
use Rattle.range_map.proofs.StoredLists.{stored_canonical}
use Rattle.range_sets.proofs.Filling.{all_equal}
use Rattle.range_keys.specs.Order.{KeyOrder}
use Rattle.range_algebra.specs.declared.any.AnyRange.{AnyRange}
use Rattle.range_store.specs.declared.storage.Item.{Item}
use Rattle.range_sets.specs.KeySets.{HoldsAllAlso, HoldsAllOf}
use Rattle.range_sets.proofs.Membership.{none_added, one_more}
use Rattle.range_map_json.proofs.ElementLoop.{one_fails, one_read, reading_begun, reading_ended}
use Rattle.range_set_json.specs.Faults.{array_fault, range_fault}
use Rattle.range_set_json.proofs.set.set_from_json.Goals as goal

-- what was added to nothing is all that is held
all_of : {K : Type 0} (order : KeyOrder K) (items : List (Item (AnyRange K) (Unit {0})))
    (ranges : List (AnyRange K)) → HoldsAllAlso order [] items ranges
    → HoldsAllOf order items ranges
all_of order items ranges h k key = (
  λ b. elim ((h k key).0 b) [ inl none ↦ absurd none | inr some ↦ some ],
  λ b. (h k key).1 (inr b),
)

pub loop-index-init : goal.loop-index-init
loop-index-init g c =
    reading_begun c.new-set.ensures refl (none_added g.T.MaybeBounded.order [])

pub loop-index-preserved : goal.loop-index-preserved
loop-index-preserved g c =
    let h = c.loop-index.invariant in
    let r = c.in_ok-range.range in
    let done = c.in_ok-insert.ensures in
    one_read c.in_ok-elements.elements.now c.loop-index.index c.index-elements-index.result
    (omega (arith, c.loop-index-test.true, c.loop-index.auto.index-end)) c.index-elements-index.is h
    g.met.T.PartialEnum.lawful all_equal r (map-append _ h.elements (r ∷ []))
    c.in_ok-range.ensures.sound c.in_ok-range.ensures.read c.known.ensures done.frame
    c.insert.ensures.canonical.stored (one_more g.T.MaybeBounded.order [] (g.C.Storage.items c.loop-index.set)
    (g.C.Storage.items c.insert.new.self) h.elements r h.bound done.added)

pub returns : goal.returns
returns g c =
    let vs = c.in_ok-elements.elements.now in
    let whole =
    reading_ended vs c.loop-index.index c.loop-index-test.false c.loop-index.invariant in
    let array = c.in_ok-elements.ensures.found in
    record {
      read = record {
        ds = map g.J.JsonTree.content vs;
        ranges = whole.elements;
        whole = array;
        read = whole.read;
        known = whole.known;
        held =
            all_of g.T.MaybeBounded.order
            (g.C.Storage.items c.loop-index.set) whole.elements whole.bound;
        kept = whole.kept;
      };
      canonical = stored_canonical g.met.T.PartialEnum.lawful all_equal _ whole.form;
      sound = ap (array_fault (range_fault g.T.Json.reads)) array ∙ whole.sound;
      fault = tt;
    }

pub returns-in_err-range-clause-fault : goal.returns-in_err-range-clause-fault
returns-in_err-range-clause-fault g c =
    grind (
      arith,
      c.in_err-range.ensures.fault,
      c.in_ok-elements.ensures.found,
      c.from_residual-in_err-range.ensures,
      one_fails c.in_ok-elements.elements.now c.loop-index.index
          c.index-elements-index.result
          (omega (arith, c.loop-index-test.true, c.loop-index.auto.index-end)) c.index-elements-index.is
          c.loop-index.invariant {e = c.in_err-range.field-0.0},
    )
