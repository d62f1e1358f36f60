-- The theorem: the entries by numbers, named again, route as the table does, and no others that do
-- are fewer.
use Rattle.std.proofs.Common.{◌≡◌, ℕ, suc, ◌+◌, ◌-◌, ◌*◌, ◌^◌, ◌≤◌, ◌<◌, Bool, List, [], ◌∷◌, ◌++◌, length, get_or, map, take, reverse, Option, Some, None, refl, ap, sym, subst, ◌∙◌, arith}
use Rattle.std.proofs.lemmas.List.{length-map, length-reverse, map-append, reverse-append}
use Rattle.std.proofs.lemmas.Option.{slice_get-map, slice_get_read}
use Rattle.std.proofs.Math.Pow.{pow_pos}
use Rattle.std.specs.Borrow.{Bor}
use Rattle.std.specs.Cmp.{IsEquivalence}
use Rattle.std.specs.List.{AllByRecursion, slice_get}
use Rattle.std.specs.Option.{option_map}
use Rattle.btree_range_map.specs.AnyRange.{AnyRange}
use Rattle.btree_range_map.specs.Item.{Item}
use Rattle.btree_range_map.specs.Order.{KeyOrder}
use Rattle.address_keys.specs.Families.{IsFamily}
use Rattle.address_prefixes.specs.Prefixes.{IsPrefix}
use Rattle.address_prefixes.specs.Tiles.{prefix_at}
use Rattle.address_prefixes.specs.declared.prefix.Prefix.{Prefix}
use Rattle.shortest_tables.specs.Entries.{AreFewest, IsBlock, RoutesAs, entries}
use Rattle.shortest_tables.specs.Numbers.{bits, value_at}
use Rattle.shortest_tables.specs.Tables.{Bits, Table, value_of}
use Rattle.shortest_tables.specs.Tables.{route as bits_route}
use Rattle.shortest_tables.specs.declared.entries.Entry.{Entry as NumberedEntry}
use Rattle.address_tables.specs.Numbers.{AreNamed, IsNamed, place}
use Rattle.address_tables.specs.Tables.{ArePrefixes, IsShortest, IsTableOf, IsValueOf, route, shown}
use Rattle.address_tables.specs.declared.entries.Entry.{Entry}
use Rattle.address_tables.proofs.Items.{At, Coarse, Known, Spans, other_place, place_is, value_is}
use Rattle.address_tables.proofs.Routes.{in_bits, prefix_bits, renamed, route_is, route_renamed, with_bits}
use Rattle.address_tables.proofs.Ties.{IsFewest, last_or_first, last_route, turned}

map_reverse : {X Y : Type 0} (f : X → Y) (t : List X) → map f (reverse t) ≡ reverse (map f t)
map_reverse f [] = refl
map_reverse f (x ∷ t) =
    ap (λ l. map f l) (reverse-append (x ∷ []) t) ∙ map-append f (reverse t) (x ∷ [])
    ∙ ap (λ l. l ++ f x ∷ []) (map_reverse f t) ∙ sym (reverse-append (f x ∷ []) (map f t))

module _ {A V : Type 0} {order : KeyOrder A} {number : A → ℕ} {at : ℕ → A} {width : ℕ}
    (family : IsFamily order number at width) (borrowed : List (Bor V)) where
  abbrev values : List V
  values = map (λ v. v.now) borrowed

  -- an entry by numbers, as a prefix of bits
  abbrev entry_bits : NumberedEntry ℕ → Bits × ℕ
  entry_bits e = (take e.length (bits width e.network), e.value)

  named_prefix : (e : NumberedEntry ℕ) → IsBlock width e
      → IsPrefix number width (prefix_at at width e.network (width - e.length))
  named_prefix e block =
      let short = block.0 in
      let fits = block.2 in
      let size = pow_pos (width - e.length) in
      let n : ℕ = e.network in
      let past : ℕ = n + 2 ^ (width - e.length) in
      let first : number (at n) ≡ n = family.at_number n (omega (arith, fits, size)) in
      let last : number (at (past - 1)) ≡ past - 1 =
      family.at_number (past - 1) (omega (arith, fits, size)) in
      let free : width - (width - (width - e.length)) ≡ width - e.length = omega (arith, short) in
      record {
        short = omega arith;
        aligned = rw (free, first) block.1;
        ends = rw (free, first, last) (omega (arith, size));
        fits = rw last (omega (arith, fits, size));
      }

  -- the entries have prefixes
  pub whole : (es : List (NumberedEntry ℕ)) (rs : List (Entry A (Bor V)))
      → AllByRecursion (IsBlock width) es → AreNamed at width borrowed es rs
      → ArePrefixes number width (map shown rs)
  whole [] [] blocks named = tt
  whole [] (r ∷ rs) blocks named = absurd named
  whole (e ∷ es) [] blocks named = absurd named
  whole (e ∷ es) (r ∷ rs) blocks named =
      (rw named.0.0 (named_prefix e blocks.0), whole es rs blocks.1 named.1)

  abbrev AreBelow : List (NumberedEntry ℕ) → Type 0
  AreBelow es = AllByRecursion (λ e. e.value < length borrowed) es

  named_value : (e : NumberedEntry ℕ) (r : Entry A (Bor V)) → e.value < length borrowed
      → get_or borrowed e.value r.value ≡ r.value
      → Some r.value.now ≡ slice_get values e.value
  named_value e r below is =
      sym (slice_get-map (λ v. v.now) borrowed e.value
      ∙ ap (λ x. option_map (λ v. v.now) x)
      (slice_get_read borrowed (length borrowed) e.value r.value refl below (sym is)))

  named_bits : (e : NumberedEntry ℕ) (p : Prefix A) → IsBlock width e
      → p ≡ prefix_at at width e.network (width - e.length)
      → prefix_bits number width p ≡ take e.length (bits width e.network)
  named_bits e p block is =
      let short = block.0 in
      let fits = block.2 in
      let size = pow_pos (width - e.length) in
      let first : number (at e.network) ≡ e.network =
      family.at_number e.network (omega (arith, fits, size)) in
      let long : width - (width - e.length) ≡ e.length = omega (arith, short) in
      rw (is, long, first) refl

  -- the same prefixes of bits, with the same values
  same_bits : (es : List (NumberedEntry ℕ)) (rs : List (Entry A (Bor V)))
      → AllByRecursion (IsBlock width) es → AreBelow es → AreNamed at width borrowed es rs
      → renamed (λ v. Some v) (in_bits number width (map shown rs))
      ≡ renamed (λ n. slice_get values n) (map entry_bits es)
  same_bits [] [] blocks below named = refl
  same_bits [] (r ∷ rs) blocks below named = absurd named
  same_bits (e ∷ es) [] blocks below named = absurd named
  same_bits (e ∷ es) (r ∷ rs) blocks below named =
      rw (
        named_bits e r.prefix blocks.0 named.0.0,
        named_value e r below.0 named.0.1,
        same_bits es rs blocks.1 below.1 named.1,
      ) refl

  same_length : (es : List (NumberedEntry ℕ)) (rs : List (Entry A (Bor V)))
      → AreNamed at width borrowed es rs → length (map shown rs) ≡ length es
  same_length [] [] named = refl
  same_length [] (r ∷ rs) named = absurd named
  same_length (e ∷ es) [] named = absurd named
  same_length (e ∷ es) (r ∷ rs) named = ap (λ n. suc n) (same_length es rs named.1)

  -- the bits of an address
  abbrev IsAddress : Bits → Type 0
  IsAddress b = (n : ℕ) × (n < 2 ^ width) × (b ≡ bits width n)

  module _ (f : ℕ → Option ℕ) (es : List (NumberedEntry ℕ)) (routes : RoutesAs width f es)
      (fewest : AreFewest width f es) where
    is_fewest : IsFewest entry_bits IsAddress es
    is_fewest others same =
        fewest others (λ n small. same (bits width n) (n, small, refl) ∙ routes n small)

    last_routes : (n : ℕ) → n < 2 ^ width → last_route (map entry_bits es) (bits width n) ≡ f n
    last_routes n small =
        last_or_first entry_bits IsAddress es is_fewest (bits width n) ∙ routes n small

    -- where the named entries route an address
    named_route : (rs : List (Entry A (Bor V))) → AllByRecursion (IsBlock width) es → AreBelow es
        → AreNamed at width borrowed es rs → (a : A) → number a < 2 ^ width
        → option_map (λ v. Some v) (route number (map shown rs) a)
        ≡ option_map (λ n. slice_get values n) (f (number a))
    named_route rs blocks below named a small =
        let b : Bits = bits width (number a) in
        ap (λ x. option_map (λ v. Some v) x)
        (sym (route_is number width (map shown rs) (whole es rs blocks named) a small))
        ∙ sym (route_renamed (λ v. Some v) (in_bits number width (map shown rs)) b)
        ∙ ap (λ t. last_route t b) (same_bits es rs blocks below named)
        ∙ route_renamed (λ n. slice_get values n) (map entry_bits es) b
        ∙ ap (λ x. option_map (λ n. slice_get values n) x) (last_routes (number a) small)

  module _ (same_value : V → V → Bool) where
    -- an entry with the place of its value
    abbrev numbered_entry : Entry A V → NumberedEntry ℕ
    numbered_entry e =
        record {
          network = number e.prefix.network;
          length = e.prefix.length;
          value = place same_value values e.value;
        }

    abbrev Places : List (Entry A V) → Table ℕ
    Places t = renamed (λ v. place same_value values v) (in_bits number width t)

    places_are : (t : List (Entry A V)) → map entry_bits (map numbered_entry t) ≡ Places t
    places_are [] = refl
    places_are (e ∷ t) = ap (λ x. entry_bits (numbered_entry e) ∷ x) (places_are t)

    places_turned : (t : List (Entry A V)) → Places (reverse t) ≡ reverse (Places t)
    places_turned t =
        ap (λ x. renamed (λ v. place same_value values v) x) (map_reverse (with_bits number width) t)
        ∙ map_reverse (λ e. (e.0, place same_value values e.1)) (in_bits number width t)

    -- turned round, so that the first of equal prefixes decides
    abbrev turned_entries : List (Entry A V) → List (NumberedEntry ℕ)
    turned_entries t = map numbered_entry (reverse t)

    turned_route : (t : List (Entry A V)) → ArePrefixes number width t → (a : A)
        → number a < 2 ^ width
        → bits_route (entries width (turned_entries t)) (bits width (number a))
        ≡ option_map (λ v. place same_value values v) (route number t a)
    turned_route t all a small =
        let b : Bits = bits width (number a) in
        ap (λ x. bits_route x b) (places_are (reverse t) ∙ places_turned t)
        ∙ ap (λ x. value_of x) (turned (Places t) b)
        ∙ route_renamed (λ v. place same_value values v) (in_bits number width t) b
        ∙ ap (λ x. option_map (λ v. place same_value values v) x) (route_is number width t all a small)

    turned_length : (t : List (Entry A V)) → length (turned_entries t) ≡ length t
    turned_length t = length-map (reverse t) numbered_entry ∙ length-reverse t

    module _ (laws : IsEquivalence same_value) (otherwise : Option V)
        (items : List (Item (AnyRange A) V)) (known : Known family same_value items)
        (coarse : Coarse family same_value items) (es : List (NumberedEntry ℕ))
        (rs : List (Entry A (Bor V))) where
      abbrev Map : ℕ → Option ℕ
      Map n = value_at (option_map (λ v. place same_value values v) otherwise)
          (Spans family same_value values items) n

      pub is_table : AllByRecursion (IsBlock width) es → AreBelow es
          → AreNamed at width borrowed es rs → RoutesAs width Map es → AreFewest width Map es
          → IsTableOf order number same_value otherwise items (map shown rs)
      is_table blocks below named routes fewest =
          λ a key. value_is family same_value laws values otherwise items known coarse a key
          (route number (map shown rs) a)
          (named_route Map es routes fewest rs blocks below named a
          (family.counted.in_size a key))

      pub is_shortest : AreNamed at width borrowed es rs → AreFewest width Map es
          → IsShortest order number same_value otherwise items width (map shown rs)
      is_shortest named fewest others all is =
          let few = fewest (turned_entries others) (λ n small.
          let e = family.at_number n small in
          let fits : number (at n) < 2 ^ width = omega (arith, e, small) in
          let key = family.is_address (at n) fits in
          let same = turned_route others all (at n) fits
          ∙ place_is family same_value laws values otherwise items known coarse (at n) key
          (route number others (at n)) (is (at n) key) in
          subst (λ m. bits_route (entries width (turned_entries others)) (bits width m) ≡ Map m)
          e same) in
          omega (arith, few, same_length es rs named, turned_length others)
