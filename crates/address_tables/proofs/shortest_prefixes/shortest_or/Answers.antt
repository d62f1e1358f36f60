use Rattle.std.proofs.Common.{◌≡◌, ◌<◌, map, length, arith}
use Rattle.std.proofs.lemmas.List.{length-map}
use Rattle.std.specs.Option.{option_copied}
use Rattle.btree_range_map.specs.Holding.{box_items}
use Rattle.address_tables.proofs.Items.{spans_ascend}
use Rattle.address_tables.proofs.Places.{numbered_other}
use Rattle.address_tables.proofs.Theorem.{is_shortest, is_table, whole}
use Rattle.address_tables.proofs.shortest_prefixes.shortest_or.Goals as goal

pub shortest_table-requires-clause-spans : goal.shortest_table-requires-clause-spans
shortest_table-requires-clause-spans g c =
    let canonical = rw c.iter-items.ensures.items at c.iter-items.ensures.canonical in
    let long = rw c.as_slice.ensures.value at c.as_slice.ensures.len in
    let mapped = length-map c.in_ok-values.values.items (λ v. v.now) in
    let count : length (map (λ v. v.now) c.in_ok-values.values.items) ≡ c.in-Ok.count =
    omega (arith, long, mapped, c.len.ensures) in
    let spans = rw c.as_slice.ensures.value at c.in_ok-spans.ensures in
    rw (spans, ← count)
    (spans_ascend g.met.A.Address.family g.V.PartialEq.eq
    (map (λ v. v.now) c.in_ok-values.values.items) (box_items c.args.table.now)
    canonical.stored.known (canonical.coarse g.met.A.Complete.complete) c.in_ok-values.ensures.1)

pub shortest_table-requires-clause-otherwise : goal.shortest_table-requires-clause-otherwise
shortest_table-requires-clause-otherwise g c =
    let long = rw c.as_slice.ensures.value at c.as_slice.ensures.len in
    let mapped = length-map c.in_ok-values.values.items (λ v. v.now) in
    let count : length (map (λ v. v.now) c.in_ok-values.values.items) ≡ c.in-Ok.count =
    omega (arith, long, mapped, c.len.ensures) in
    rw (c.other_place-place.ensures, c.as_slice-2.ensures.value)
    (numbered_other g.V.PartialEq.eq (map (λ v. v.now) c.in_ok-values.values.items)
    (option_copied c.args.otherwise) c.in-Ok.count count c.in_ok-values.ensures.0)

pub entries_of-requires-clause-values : goal.entries_of-requires-clause-values
entries_of-requires-clause-values g c =
    let long = rw c.as_slice.ensures.value at c.as_slice.ensures.len in
    let count : length c.in_ok-values.values.items ≡ c.in-Ok.count =
    omega (arith, long, c.len.ensures) in
    rw (c.as_slice-3.ensures.value, c.as_slice-4.ensures.value, count)
    c.in_ok-numbered.ensures.values

pub returns : goal.returns
returns g c =
    let family = g.met.A.Address.family in
    let same_value = g.V.PartialEq.eq in
    let laws = g.met.V.Eq.laws in
    let items = box_items c.args.table.now in
    let otherwise = option_copied c.args.otherwise in
    let canonical = rw c.iter-items.ensures.items at c.iter-items.ensures.canonical in
    let known = canonical.stored.known in
    let coarse = canonical.coarse g.met.A.Complete.complete in
    let borrowed = c.in_ok-values.values.items in
    let es = c.in_ok-numbered.numbered.items in
    let rs = c.in_ok-entries.entries.items in
    let long = rw c.as_slice.ensures.value at c.as_slice.ensures.len in
    let count : length c.in_ok-values.values.items ≡ c.in-Ok.count =
    omega (arith, long, c.len.ensures) in
    let blocks = rw c.WIDTH.ensures at c.in_ok-numbered.ensures.blocks in
    let below = rw (← count) at c.in_ok-numbered.ensures.values in
    let named = rw (c.as_slice-3.ensures.value, c.as_slice-4.ensures.value)
    at c.in_ok-entries.ensures in
    let spans = rw c.as_slice.ensures.value at c.in_ok-spans.ensures in
    let place = rw c.as_slice-2.ensures.value at c.other_place-place.ensures in
    let routes = rw (c.WIDTH.ensures, spans, place)
    at c.in_ok-numbered.ensures.routes in
    let fewest = rw (c.WIDTH.ensures, spans, place)
    at c.in_ok-numbered.ensures.fewest in
    record {
      prefixes = whole family borrowed es rs blocks named;
      routes =
          is_table family borrowed same_value laws otherwise items known coarse es rs blocks below
          named routes fewest;
      shortest =
          is_shortest family borrowed same_value laws otherwise items known coarse es rs named
          fewest;
    }
