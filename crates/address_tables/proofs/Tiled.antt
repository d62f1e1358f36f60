-- The prefixes of the ranges of a table: they ascend, no two overlap, and they route as it does.
use Rattle.std.proofs.Common.{◌≡◌, ℕ, ◌+◌, ◌-◌, ◌^◌, ◌≤◌, ◌<◌, ◌⊎◌, Bool, IsTrue, true, false, List, [], ◌∷◌, ◌++◌, map, Option, Some, None, inl, inr, refl, ap, sym, subst, ◌∙◌, arith}
use Rattle.std.specs.Cmp.{IsEquivalence}
use Rattle.std.specs.List.{AllByRecursion}
use Rattle.std.specs.Option.{option_map}
use Rattle.std.proofs.lemmas.Bool.{cases_lt}
use Rattle.std.proofs.Math.Pow.{pow_pos}
use Rattle.btree_range_map.specs.AnyRange.{AnyRange}
use Rattle.btree_range_map.specs.Bindings.{Binds, BindsTo, IsBound}
use Rattle.btree_range_map.specs.Item.{Item}
use Rattle.btree_range_map.specs.Order.{KeyOrder}
use Rattle.btree_range_map.specs.Range.{Holds}
use Rattle.address_keys.specs.Families.{IsFamily}
use Rattle.address_prefixes.specs.Prefixes.{HasAddress, IsPrefix, SomeHasAddress, size}
use Rattle.address_prefixes.specs.Spans.{HasSpan}
use Rattle.address_prefixes.specs.declared.prefix.Prefix.{Prefix}
use Rattle.address_prefixes.proofs.Tiles.{AreWidest, all_tiles_are, of_some, some_of}
use Rattle.address_sets.proofs.Sets.{from_of, holds_is, past_of}
use Rattle.address_tables.specs.Tables.{AreSame, ArePrefixes, IsTableOf, longest}
use Rattle.address_tables.specs.Tiled.{range_tiles, tiled, valued}
use Rattle.address_tables.specs.declared.entries.Entry.{Entry}
use Rattle.address_tables.proofs.Apart.{AreWithin, IsOneOf, NoneHolds, has_or_lacks, none_longest, one_later, routed, within_apart, within_more}
use Rattle.address_tables.proofs.Items.{Coarse, Known, StartFrom, coarse_rest, have_spans, next_from, starts_from_zero}

module _ {A V : Type 0} {order : KeyOrder A} {number : A → ℕ} {at : ℕ → A} {width : ℕ}
    (family : IsFamily order number at width) (same_value : V → V → Bool) where
  abbrev Tiles : List (Item (AnyRange A) V) → List (Entry A V)
  Tiles items = tiled number at width items

  abbrev RangeTiles : AnyRange A → List (Prefix A)
  RangeTiles r = range_tiles number at width r

  pub tiles_are : (r : AnyRange A) → HasSpan number width r
      → AreWidest family (from_of family r) (past_of family r) (RangeTiles r)
  tiles_are r has =
      let some = has.0 in
      let top = has.1 in
      let same : past_of family r - 1 + 1 ≡ past_of family r = omega arith in
      subst (λ past. AreWidest family (from_of family r) past (RangeTiles r)) same
      (all_tiles_are family (from_of family r) (past_of family r - 1 + 1) (omega arith) (omega arith))

  within_tiles : (v : V) (from past : ℕ) (ps : List (Prefix A)) (more : List (Entry A V))
      → AreWidest family from past ps → AreWithin number past more
      → AreWithin number from (valued v ps ++ more)
  within_tiles v from past [] more e rest = subst (λ n. AreWithin number n more) (sym e) rest
  within_tiles v from past (p ∷ ps) more e rest =
      let starts = e.0.starts in
      let ends = e.0.prefix.ends in
      let some = pow_pos (width - p.length) in
      let next : from + size number width p ≡ number p.last + 1 = omega arith in (
        omega arith,
        omega arith,
        subst (λ n. AreWithin number n (valued v ps ++ more)) next
            (within_tiles v (from + size number width p) past ps more e.1 rest),
      )

  within_from : (items : List (Item (AnyRange A) V)) → Known family same_value items
      → Coarse family same_value items → (from : ℕ) → StartFrom family same_value from items
      → AreWithin number from (Tiles items)
  within_from [] known coarse from starts = tt
  within_from (i ∷ items) known coarse from starts =
      within_more number from (from_of family i.key) (Tiles (i ∷ items)) starts
      (within_tiles i.value (from_of family i.key) (past_of family i.key) (RangeTiles i.key)
      (Tiles items) (tiles_are i.key (have_spans family same_value (i ∷ items) known coarse).0)
      (within_from items known.1 (coarse_rest family same_value i items coarse)
      (past_of family i.key) (next_from family same_value i items known coarse)))

  -- one after the other
  pub tiled_within : (items : List (Item (AnyRange A) V)) → Known family same_value items
      → Coarse family same_value items → AreWithin number 0 (Tiles items)
  tiled_within items known coarse =
      within_from items known coarse 0 (starts_from_zero family same_value items)

  prefixes_valued : (v : V) (from past : ℕ) (ps : List (Prefix A)) (more : List (Entry A V))
      → AreWidest family from past ps → ArePrefixes number width more
      → ArePrefixes number width (valued v ps ++ more)
  prefixes_valued v from past [] more e rest = rest
  prefixes_valued v from past (p ∷ ps) more e rest =
      (e.0.prefix, prefixes_valued v (from + size number width p) past ps more e.1 rest)

  pub tiled_prefixes : (items : List (Item (AnyRange A) V)) → Known family same_value items
      → Coarse family same_value items → ArePrefixes number width (Tiles items)
  tiled_prefixes [] known coarse = tt
  tiled_prefixes (i ∷ items) known coarse =
      prefixes_valued i.value (from_of family i.key) (past_of family i.key) (RangeTiles i.key)
      (Tiles items) (tiles_are i.key (have_spans family same_value (i ∷ items) known coarse).0)
      (tiled_prefixes items known.1 (coarse_rest family same_value i items coarse))

  -- an entry of the list has the address, with its value
  record Found (items : List (Item (AnyRange A) V)) (t : List (Entry A V)) (a : A) : Type 0 where
    entry : Entry A V
    one : IsOneOf entry t
    has : HasAddress number a entry.prefix
    binds : BindsTo order same_value items a entry.value

  first_found : (v : V) (ps : List (Prefix A)) (more : List (Entry A V)) (a : A)
      → SomeHasAddress number ps a
      → (e : Entry A V) × IsOneOf e (valued v ps ++ more) × HasAddress number a e.prefix
      × (v ≡ e.value)
  first_found v [] more a none = absurd none
  first_found v (p ∷ ps) more a (inl here) =
      (record { prefix = p; value = v }, inl refl, here, refl)
  first_found v (p ∷ ps) more a (inr later) =
      let f = first_found v ps more a later in (f.0, inr f.1, f.2, f.3)

  lacks_valued : (v : V) (ps : List (Prefix A)) (more : List (Entry A V)) (a : A)
      → ¬ SomeHasAddress number ps a → NoneHolds number more a
      → NoneHolds number (valued v ps ++ more) a
  lacks_valued v [] more a none rest = rest
  lacks_valued v (p ∷ ps) more a none rest =
      let later = lacks_valued v ps more a (λ some. none (inr some)) rest in
      elim (has_or_lacks number p a) [
        | inl here ↦ absurd (none (inl here))
        | inr lacks ↦ (lacks, later)
      ]

  module _ (laws : IsEquivalence same_value) where
    found : (items : List (Item (AnyRange A) V)) → Known family same_value items
        → Coarse family same_value items → (a : A) → order.is_key a → IsBound order items a
        → Found items (Tiles items) a
    found [] known coarse a key none = absurd none
    found (i ∷ items) known coarse a key (inl here) =
        let lies = (holds_is family i.key a key).0 here in
        let f = first_found i.value (RangeTiles i.key) (Tiles items) a
        (some_of family (from_of family i.key) (past_of family i.key) (RangeTiles i.key) a
        (tiles_are i.key (have_spans family same_value (i ∷ items) known coarse).0) lies.0 lies.1) in
        record {
          entry = f.0;
          one = f.1;
          has = f.2;
          binds = inl (here, subst (λ w. IsTrue (same_value i.value w)) f.3 (laws.refl i.value));
        }
    found (i ∷ items) known coarse a key (inr later) =
        let f = found items known.1 (coarse_rest family same_value i items coarse) a key later in
        record {
          entry = f.entry;
          one = one_later f.entry (valued i.value (RangeTiles i.key)) (Tiles items) f.one;
          has = f.has;
          binds = inr f.binds;
        }

  lacking : (items : List (Item (AnyRange A) V)) → Known family same_value items
      → Coarse family same_value items → (a : A) → order.is_key a → ¬ IsBound order items a
      → NoneHolds number (Tiles items) a
  lacking [] known coarse a key free = tt
  lacking (i ∷ items) known coarse a key free =
      lacks_valued i.value (RangeTiles i.key) (Tiles items) a
      (λ some. let lies = of_some family (from_of family i.key) (past_of family i.key)
      (RangeTiles i.key) a
      (tiles_are i.key (have_spans family same_value (i ∷ items) known coarse).0) some in
      free (inl ((holds_is family i.key a key).1 lies)))
      (lacking items known.1 (coarse_rest family same_value i items coarse) a key
      (λ bound. free (inr bound)))

  -- they route as the table does
  pub tiled_table : (laws : IsEquivalence same_value) (items : List (Item (AnyRange A) V))
      → Known family same_value items → Coarse family same_value items
      → IsTableOf order number same_value None items (Tiles items)
  tiled_table laws items known coarse =
      λ a key. record {
        bound = λ bound.
            let f = found laws items known coarse a key bound in
            let is = routed number (Tiles items)
            (within_apart number 0 (Tiles items) (tiled_within items known coarse)) f.entry f.one a
            f.has in
            subst (λ x. Binds order same_value items a (option_map (λ e. e.value) x)) (sym is)
            f.binds;
        free = λ free.
            let is = none_longest number (Tiles items) a (lacking items known coarse a key free) in
            subst (λ x. AreSame order same_value None (option_map (λ e. e.value) x)) (sym is) tt;
      }
