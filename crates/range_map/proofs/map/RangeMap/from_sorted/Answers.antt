use Rattle.range_map.proofs.Common.{◌≡◌, ℕ, refl, ap, subst, map, Result, Ok, Err, item_of, IsFirstFault}
use Rattle.range_map.specs.declared.map.from_sorted.NotSorted.{NotSorted}
use Rattle.range_map.specs.declared.map.from_sorted.NotSorted.TheVariants.{Memory, OutOfOrder as FaultAt}
use Rattle.range_bulk.proofs.SortedLists.{one_fault, sorted_has_none}
use Rattle.range_map.proofs.map.RangeMap.from_sorted.Goals as goal

pub returns-in-Some-clause-out_of_order : goal.returns-in-Some-clause-out_of_order
returns-in-Some-clause-out_of_order g c n =
    let order = g.K.MaybeBounded.order in
    let items = map (item_of g.R.AsRange.range) c.args.pairs.items in
    let place = c.in-Some.index in
    let fault = rw c.as_slice.ensures.value at c.in-Some.ensures.fault in (
      λ e. let same : place ≡ n = cc in subst (λ m. IsFirstFault order items m) same fault,
      λ other. ap (λ m. Err (FaultAt m)) (one_fault order items place n fault other),
    )

memory_is_no_fault : {A : Type 0} {n : ℕ} (r : Result A NotSorted) → r ≡ Err Memory
    → r ≡ Err (FaultAt n) → ⊥
memory_is_no_fault r is e = cc

map_is_no_fault : {A : Type 0} {new : A} {n : ℕ} → Ok new ≡ Err (FaultAt n) → ⊥
map_is_no_fault e = cc

pub returns-in-Err-clause-out_of_order : goal.returns-in-Err-clause-out_of_order
returns-in-Err-clause-out_of_order g c =
    let items = map (item_of g.R.AsRange.range) c.args.pairs.items in
    let sorted = rw c.as_slice.ensures.value at (c.in-None.ensures.sorted refl) in
    λ n. (
      λ e. absurd (memory_is_no_fault _ refl e),
      λ fault. absurd (sorted_has_none g.K.MaybeBounded.order items n sorted fault),
    )

pub returns-in-Ok : goal.returns-in-Ok
returns-in-Ok g c =
    let items = map (item_of g.R.AsRange.range) c.args.pairs.items in
    let sorted = rw c.as_slice.ensures.value at (c.in-None.ensures.sorted refl) in
    record {
      out_of_order = λ n. (
        λ e. absurd (map_is_no_fault e),
        λ fault. absurd (sorted_has_none g.K.MaybeBounded.order items n sorted fault),
      );
      bound = c.in-Ok.ensures.bound;
      canonical = c.in-Ok.ensures.canonical;
      empty = λ none. refl;
    }
