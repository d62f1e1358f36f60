-- Where prefixes of addresses route, as tables of bits say.
use Rattle.std.proofs.Common.{◌≡◌, ℕ, ◌+◌, ◌-◌, ◌≤◌, ◌<◌, ◌^◌, Bool, true, false, ◌&&◌, if◌then◌else◌, nat_le, nat_lt, List, [], ◌∷◌, ◌++◌, length, map, take, Option, Some, None, IfSome, refl, ap, sym, ◌∙◌, arith}
use Rattle.std.specs.Option.{option_map}
use Rattle.std.proofs.lemmas.Bool.Decides.{nat_tests}
use Rattle.shortest_tables.specs.Numbers.{bits}
use Rattle.shortest_tables.specs.Tables.{Bits, Table, shorter, value_of}
use Rattle.shortest_tables.specs.Tables.{holds as begins}
use Rattle.address_prefixes.specs.Prefixes.{IsPrefix}
use Rattle.address_tables.specs.Tables.{ArePrefixes, holds, longer, longest, route}
use Rattle.address_prefixes.specs.declared.prefix.Prefix.{Prefix}
use Rattle.address_tables.specs.declared.entries.Entry.{Entry}
use Rattle.address_tables.proofs.Bits.{IsEnd, holds_is, length_prefix, shorter_is}
use Rattle.address_tables.proofs.Ties.{last_longest, last_route, own, pick}

module _ {V W : Type 0} (name : V → W) where
  -- the same prefixes, with other values
  abbrev pub renamed : Table V → Table W
  renamed t = map (λ e. (e.0, name e.1)) t

  abbrev as_other : Bits × V → Bits × W
  as_other e = (e.0, name e.1)

  pick_renamed : (x y : Option (Bits × V))
      → pick (option_map as_other x) (option_map as_other y) ≡ option_map as_other (pick x y)
  pick_renamed None y = refl
  pick_renamed (Some e) None = refl
  pick_renamed (Some e) (Some d) =
      elim (shorter e.0 d.0) as (λ h. (if h then Some (as_other d) else Some (as_other e))
      ≡ option_map as_other (if h then Some d else Some e)) [ true ↦ refl | false ↦ refl ]

  own_renamed : (e : Bits × V) (a : Bits) → own (as_other e) a ≡ option_map as_other (own e a)
  own_renamed e a =
      elim (begins e.0 a) as (λ h. (if h then Some (as_other e) else None)
      ≡ option_map as_other (if h then Some e else None)) [ true ↦ refl | false ↦ refl ]

  longest_renamed : (t : Table V) (a : Bits)
      → last_longest (renamed t) a ≡ option_map as_other (last_longest t a)
  longest_renamed [] a = refl
  longest_renamed (e ∷ t) a =
      rw (longest_renamed t a, own_renamed e a) (pick_renamed (last_longest t a) (own e a))

  value_renamed : (x : Option (Bits × V))
      → value_of (option_map as_other x) ≡ option_map name (value_of x)
  value_renamed None = refl
  value_renamed (Some e) = refl

  pub route_renamed : (t : Table V) (a : Bits)
      → last_route (renamed t) a ≡ option_map name (last_route t a)
  route_renamed t a =
      ap (λ x. value_of x) (longest_renamed t a) ∙ value_renamed (last_longest t a)

module _ {A : Type 0} (number : A → ℕ) (width : ℕ) where
  -- the first bits of the network
  abbrev pub prefix_bits : Prefix A → Bits
  prefix_bits p = take p.length (bits width (number p.network))

  module _ {V : Type 0} where
    abbrev pub with_bits : Entry A V → Bits × V
    with_bits e = (prefix_bits e.prefix, e.value)

    -- the table of the bits of the prefixes
    abbrev pub in_bits : List (Entry A V) → Table V
    in_bits t = map with_bits t

  begins_is : (p : Prefix A) → IsPrefix number width p → (a : A) → number a < 2 ^ width
      → begins (prefix_bits p) (bits width (number a)) ≡ holds number p a
  begins_is p is a small =
      holds_is width p.length (number p.network) (number a) (number p.last) (record {
        short = is.short;
        aligned = is.aligned;
        ends = is.ends;
        fits = is.fits;
      }) small

  lengths_are : (p q : Prefix A) → IsPrefix number width p → IsPrefix number width q
      → shorter (prefix_bits p) (prefix_bits q) ≡ nat_lt p.length q.length
  lengths_are p q is are =
      shorter_is (prefix_bits p) (prefix_bits q)
      ∙ ap (λ n. nat_lt n (length (prefix_bits q))) (length_prefix width p.length (number p.network) is.short)
      ∙ ap (λ n. nat_lt p.length n) (length_prefix width q.length (number q.network) are.short)

  module _ {V : Type 0} where
    -- the longest entry is the same
    record IsSame (t : List (Entry A V)) (a : A) : Type 0 where
      same : last_longest (in_bits t) (bits width (number a))
          ≡ option_map with_bits (longest number t a)
      whole : IfSome (longest number t a) (λ e. IsPrefix number width e.prefix)

    longer_is : (e d : Entry A V) → IsPrefix number width e.prefix
        → IsPrefix number width d.prefix
        → pick (Some (with_bits d)) (Some (with_bits e))
        ≡ option_map with_bits (longer number e (Some d))
    longer_is e d is are =
        rw (lengths_are d.prefix e.prefix are is)
        (elim (nat_lt d.prefix.length e.prefix.length)
        as (λ h. (if h then Some (with_bits e) else Some (with_bits d))
        ≡ option_map with_bits (if h then Some e else Some d)) [ true ↦ refl | false ↦ refl ])

    next_is : (e : Entry A V) → IsPrefix number width e.prefix → (found : Option (Entry A V))
        → IfSome found (λ d. IsPrefix number width d.prefix) → (h : Bool)
        → pick (option_map with_bits found) (if h then Some (with_bits e) else None)
        ≡ option_map with_bits (if h then longer number e found else found)
    next_is e is None whole true = refl
    next_is e is None whole false = refl
    next_is e is (Some d) whole true = longer_is e d is whole
    next_is e is (Some d) whole false = refl

    either : (e d : Entry A V) → IsPrefix number width e.prefix → IsPrefix number width d.prefix
        → (h : Bool) → IfSome (if h then Some e else Some d) (λ c. IsPrefix number width c.prefix)
    either e d is are true = is
    either e d is are false = are

    next_whole : (e : Entry A V) → IsPrefix number width e.prefix → (found : Option (Entry A V))
        → IfSome found (λ d. IsPrefix number width d.prefix) → (h : Bool)
        → IfSome (if h then longer number e found else found)
        (λ d. IsPrefix number width d.prefix)
    next_whole e is None whole true = is
    next_whole e is None whole false = tt
    next_whole e is (Some d) whole true =
        either e d is whole (nat_lt d.prefix.length e.prefix.length)
    next_whole e is (Some d) whole false = whole

    is_same : (t : List (Entry A V)) → ArePrefixes number width t → (a : A)
        → number a < 2 ^ width → IsSame t a
    is_same [] all a small = record { same = refl; whole = tt }
    is_same (e ∷ t) all a small =
        let again = is_same t all.1 a small in
        record {
          same =
              ap (λ x. pick x (own (with_bits e) (bits width (number a)))) again.same
              ∙ ap (λ h. pick (option_map with_bits (longest number t a))
              (if h then Some (with_bits e) else None)) (begins_is e.prefix all.0 a small)
              ∙ next_is e all.0 (longest number t a) again.whole (holds number e.prefix a);
          whole = next_whole e all.0 (longest number t a) again.whole (holds number e.prefix a);
        }

    value_is : (found : Option (Entry A V))
        → value_of (option_map with_bits found) ≡ option_map (λ e. e.value) found
    value_is None = refl
    value_is (Some e) = refl

    -- the table of bits routes as the prefixes do
    pub route_is : (t : List (Entry A V)) → ArePrefixes number width t → (a : A)
        → number a < 2 ^ width → last_route (in_bits t) (bits width (number a)) ≡ route number t a
    route_is t all a small =
        let is = is_same t all a small in
        ap (λ x. value_of x) is.same ∙ value_is (longest number t a)
