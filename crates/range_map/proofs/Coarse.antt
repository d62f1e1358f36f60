-- Coarse lists, by the keys alone: those with the same bindings are alike, and no list with these
-- bindings is shorter.
use Rattle.range_map.proofs.Common.{common_steps, ◌≡◌, refl, ap, ◌∙◌, ℕ, suc, ◌≤◌, List, [], ◌∷◌, length, ◌⊎◌, inl, inr, Bool, true, IsTrue, Some, arith, is_gt, IsEquivalence, tied_itself, KeyOrder, IsLawful, Below, Holds, AnyRange, Item, LiesBetween, IsBound, BindsTo, BindAlike, AreDisjoint, IsCoarse, AreAlike, not_not_less, binds_bound, Any, any_over}
use Rattle.std.proofs.lemmas.Bool.Decides.{leb_tells}
use Rattle.range_algebra.proofs.Pieces.{start_up, end_down}
use Rattle.range_bulk.proofs.BoundKeys.{bound_value}

-- what is decided may be shown by two denials

stable_true : (b : Bool) → ((b ≡ true → ⊥) → ⊥) → b ≡ true
stable_true test h = grind (arith, common_steps)

stable_order : (m n : ℕ) → ((m ≤ n → ⊥) → ⊥) → m ≤ n
stable_order m n h = grind (arith, common_steps, leb_tells)

module _ {K : Type 0} {order : KeyOrder K} (lawful : IsLawful order) where
  not_below_itself : (a : K) → Below order a a → ⊥
  not_below_itself a l = grind (arith, common_steps, tied_itself, lawful.total)

  -- a range holds what lies between two keys that it holds
  ranges_are_convex : (r : AnyRange K) (a b c : K) → Holds order r a → Holds order r b
      → Below order a c → Below order c b → Holds order r c
  ranges_are_convex r a b c h g l u = (
    start_up order lawful r.start a c (ap is_gt l) h.0,
    end_down order lawful r.end c b (ap is_gt u) g.1,
  )

  module _ {V : Type 0} {same_value : V → V → Bool} (values : IsEquivalence same_value) where
    abbrev Items : Type 0
    Items = List (Item (AnyRange K) V)

    abbrev Coarse : Items → Type 0
    Coarse items = IsCoarse order same_value items

    rest_coarse : {i : Item (AnyRange K) V} {rest : Items} → IsCoarse order same_value (i ∷ rest)
        → IsCoarse order same_value rest
    rest_coarse coarse =
        record { keyed = coarse.keyed.1; rising = coarse.rising.1; parted = coarse.parted.1 }

    -- the keys of the first range lie below those of all the others
    first_below : (i : Item (AnyRange K) V) (rest : Items) → Coarse (i ∷ rest) → (a b : K)
        → order.is_key a → order.is_key b → Holds order i.key a → IsBound order rest b
        → Below order a b
    first_below i [] coarse a b key key' h g = absurd g
    first_below i (j ∷ rest) coarse a b key key' h (inl g) = coarse.rising.0 a b key key' h g
    first_below i (j ∷ rest) coarse a b key key' h (inr g) =
        not_not_less (order.cmp a b) (λ no. coarse.keyed.1.0 (λ y in_type held.
        no (lawful.total.trans a y b (coarse.rising.0 a y key in_type h held)
        (first_below j rest (rest_coarse coarse) y b in_type key' held g))))

    first_alone : (i : Item (AnyRange K) V) (rest : Items) → Coarse (i ∷ rest) → (a : K)
        → order.is_key a → Holds order i.key a → IsBound order rest a → ⊥
    first_alone i rest coarse a key h g =
        not_below_itself a (first_below i rest coarse a a key key h g)

    first_value : (i : Item (AnyRange K) V) (rest : Items) → Coarse (i ∷ rest) → (a : K) (v : V)
        → order.is_key a → Holds order i.key a → BindsTo order same_value (i ∷ rest) a v
        → IsTrue (same_value i.value v)
    first_value i rest coarse a v key h either =
        grind (arith, common_steps, first_alone, binds_bound)

    -- no key is held by two items of a coarse list
    pub coarse_disjoint : (items : Items) → Coarse items → AreDisjoint order items
    coarse_disjoint [] coarse = tt
    coarse_disjoint (i ∷ rest) coarse =
        grind (arith, first_alone, coarse_disjoint rest (rest_coarse coarse), rest_coarse)

    -- all keys of the range are bound to the value
    abbrev AllBoundTo : Items → AnyRange K → V → Type 0
    AllBoundTo items r v = (k : K) → order.is_key k → Holds order r k
        → BindsTo order same_value items k v

    -- a range whose keys are all bound to one value does not hold keys of two neighbours
    neighbours_differ : (i j : Item (AnyRange K) V) (rest : Items) → Coarse (i ∷ j ∷ rest)
        → (r : AnyRange K) (v : V) → AllBoundTo (i ∷ j ∷ rest) r v → (a b : K) → order.is_key a
        → order.is_key b → Holds order i.key a → Holds order j.key b → Holds order r a
        → Holds order r b → ⊥
    neighbours_differ i j rest coarse r v all a b key key' h g in_r in_r' =
        coarse.parted.0 (coarse.rising.0, apart)
        (values.congr i.value v j.value (first_value i (j ∷ rest) coarse a v key h (all a key in_r))
        ∙ values.symm v j.value ∙ right (all b key' in_r'))
      where
        right : BindsTo order same_value (i ∷ j ∷ rest) b v → IsTrue (same_value j.value v)
        right (inl m) = absurd (first_alone i (j ∷ rest) coarse b key' m.0 (inl g))
        right (inr m) = first_value j rest (rest_coarse coarse) b v key' g m

        apart : (k : K) → order.is_key k → LiesBetween order i.key j.key k → ⊥
        apart k known between =
            let over : Below order a k = between.0 a key h in
            let under : Below order k b = between.1 b key' g in
            elim (all k known (ranges_are_convex r a b k in_r in_r' over under)) [
              | inl m ↦ not_below_itself k (between.0 k known m.0)
              | inr m ↦ elim m [
                | inl n ↦ not_below_itself k (between.1 k known n.0)
                | inr n ↦
                    not_below_itself k (lawful.total.trans k b k under
                    (first_below j rest (rest_coarse coarse) b k key' known g
                    (binds_bound order same_value rest k v n)))
              ]
            ]

    -- nor keys of the first range and of a later one
    later_differ : (i : Item (AnyRange K) V) (rest : Items) → Coarse (i ∷ rest)
        → (r : AnyRange K) (v : V) → AllBoundTo (i ∷ rest) r v → (a b : K) → order.is_key a
        → order.is_key b → Holds order i.key a → IsBound order rest b → Holds order r a
        → Holds order r b → ⊥
    later_differ i [] coarse r v all a b key key' h g in_r in_r' = g
    later_differ i (j ∷ rest) coarse r v all a b key key' h (inl g) in_r in_r' =
        neighbours_differ i j rest coarse r v all a b key key' h g in_r in_r'
    later_differ i (j ∷ rest) coarse r v all a b key key' h (inr g) in_r in_r' =
        coarse.keyed.1.0 (λ y in_type held.
        neighbours_differ i j rest coarse r v all a y key in_type h held in_r
        (ranges_are_convex r a b y in_r in_r' (coarse.rising.0 a y key in_type h held)
        (first_below j rest (rest_coarse coarse) y b in_type key' held g)))

    -- what the one binds a key to, the other does
    abbrev Follows : Items → Items → Type 0
    Follows items others = (k : K) → order.is_key k → (v : V) → BindsTo order same_value items k v
        → BindsTo order same_value others k v

    first_bound : (i : Item (AnyRange K) V) (items others : Items) → Follows (i ∷ items) others
        → AllBoundTo others i.key i.value
    first_bound i items others there k key h =
        there k key i.value (inl (h, values.refl i.value))

    module _ (i j : Item (AnyRange K) V) (items others : Items) (coarse : Coarse (i ∷ items))
        (coarse' : Coarse (j ∷ others)) (there : Follows (i ∷ items) (j ∷ others))
        (back : Follows (j ∷ others) (i ∷ items)) where
      held_too : (k : K) → order.is_key k → Holds order i.key k → Holds order j.key k
      held_too k key h = settle (first_bound i items (j ∷ others) there k key h)
        where
          from_first : (y : K) → order.is_key y → Holds order j.key y → IsBound order others k
              → BindsTo order same_value (i ∷ items) y j.value → ⊥
          from_first y in_type held g (inl f) =
              later_differ j others coarse' i.key i.value (first_bound i items (j ∷ others) there)
              y k in_type key held g f.0 h
          from_first y in_type held g (inr f) =
              not_below_itself y (lawful.total.trans y k y
              (first_below j others coarse' y k in_type key held g)
              (first_below i items coarse k y key in_type h
              (binds_bound order same_value items y j.value f)))

          settle : BindsTo order same_value (j ∷ others) k i.value → Holds order j.key k
          settle (inl g) = g.0
          settle (inr g) =
              absurd (coarse'.keyed.0 (λ y in_type held. from_first y in_type held
              (binds_bound order same_value others k i.value g)
              (first_bound j others (i ∷ items) back y in_type held)))

      rest_follows : ((k : K) → order.is_key k → Holds order j.key k → Holds order i.key k)
          → Follows items others
      rest_follows held k key v h =
          elim (there k key v (inr h)) [
            | inl g ↦
                grind (arith, first_alone, binds_bound)
            | inr g ↦ g
          ]

      first_same : IsTrue (same_value i.value j.value)
      first_same =
          stable_true (same_value i.value j.value)
          (grind (arith, common_steps, values.symm, first_value, held_too, first_bound))

    alike_by : (items others : Items) → Coarse items → Coarse others → Follows items others
        → Follows others items → AreAlike order same_value items others
    alike_by [] [] coarse coarse' there back = tt
    alike_by [] (j ∷ others) coarse coarse' there back =
        coarse'.keyed.0 (first_bound j others [] back)
    alike_by (i ∷ items) [] coarse coarse' there back =
        coarse.keyed.0 (first_bound i items [] there)
    alike_by (i ∷ items) (j ∷ others) coarse coarse' there back =
        let over = held_too i j items others coarse coarse' there back in
        let under = held_too j i others items coarse' coarse back there in (
          (
            λ k key. (over k key, under k key),
            first_same i j items others coarse coarse' there back,
          ),
          alike_by items others (rest_coarse coarse) (rest_coarse coarse')
              (rest_follows i j items others coarse coarse' there back under)
              (rest_follows j i others items coarse' coarse back there over),
        )

    -- coarse lists with the same bindings are alike
    pub coarse_alike : (items others : Items) → Coarse items → Coarse others
        → BindAlike order same_value items others → AreAlike order same_value items others
    coarse_alike items others coarse coarse' alike =
        alike_by items others coarse coarse' (λ k key v. (alike k key (Some v)).0)
        (λ k key v. (alike k key (Some v)).1)

    -- an item with such a key taken out of a list
    record IsTakenOut (IsSuch : K → Item (AnyRange K) V → Type 0) (items : Items)
        (k : K) : Type 0 where
      item : Item (AnyRange K) V
      rest : Items
      count : length items ≡ suc (length rest)
      such : IsSuch k item
      others : (l : K) → Any (IsSuch l) items → IsSuch l item ⊎ Any (IsSuch l) rest

    take_out : (IsSuch : K → Item (AnyRange K) V → Type 0) (items : Items) (k : K)
        → Any (IsSuch k) items → IsTakenOut IsSuch items k
    take_out IsSuch [] k h = absurd h
    take_out IsSuch (i ∷ rest) k (inl h) =
        record { item = i; rest = rest; count = refl; such = h; others = λ l f. f }
    take_out IsSuch (i ∷ rest) k (inr h) =
        let found = take_out IsSuch rest k h in
        record {
          item = found.item;
          rest = i ∷ found.rest;
          count = ap suc found.count;
          such = found.such;
          others = grind (arith, common_steps);
        }

    -- the range holds the key, and its keys are bound to its value
    abbrev Covers : Items → K → Item (AnyRange K) V → Type 0
    Covers items k o = Holds order o.key k × AllBoundTo items o.key o.value

    covered_list_is_not_longer : (items others : Items) → Coarse items
        → ((k : K) → order.is_key k → IsBound order items k → Any (Covers items k) others)
        → length items ≤ length others
    covered_list_is_not_longer [] others coarse covered = omega arith
    covered_list_is_not_longer (i ∷ items) others coarse covered =
        stable_order (length (i ∷ items)) (length others)
        (λ no. coarse.keyed.0 (λ k key h.
        let found = take_out (Covers (i ∷ items)) others k (covered k key (inl h)) in
        let fewer : length items ≤ length found.rest =
        covered_list_is_not_longer items found.rest (rest_coarse coarse) (λ l known g.
        any_over (Covers (i ∷ items) l) (Covers items l) found.rest
        (λ o t. (
          t.0,
          λ c in_type in_o. elim (t.1 c in_type in_o) [
            | inl m ↦ absurd (later o t.1 c l in_type known m.0 g in_o t.0)
            | inr m ↦ m
          ],
        ))
        (elim (found.others l (covered l known (inr g))) [
          | inl t ↦ absurd (later found.item t.1 k l key known h g found.such.0 t.0)
          | inr t ↦ t
        ])) in
        no (omega (arith, found.count, fewer))))
      where
        later : (o : Item (AnyRange K) V) → AllBoundTo (i ∷ items) o.key o.value → (a b : K)
            → order.is_key a → order.is_key b → Holds order i.key a → IsBound order items b
            → Holds order o.key a → Holds order o.key b → ⊥
        later o all = later_differ i items coarse o.key o.value all

    covers : (items others : Items) → Follows others items → (k : K) (v : V)
        → BindsTo order same_value others k v → Any (Covers items k) others
    covers items [] back k v h = absurd h
    covers items (o ∷ others) back k v either =
        grind (arith, common_steps, first_bound, covers items others)

    -- no list with the same bindings is shorter than a coarse one
    pub coarse_shortest : (items others : Items) → Coarse items
        → BindAlike order same_value items others → length items ≤ length others
    coarse_shortest items others coarse alike =
        covered_list_is_not_longer items others coarse (λ k key h.
        let found = bound_value order same_value values items k h in
        covers items others (λ c known v. (alike c known (Some v)).1) k found.0
        ((alike k key (Some found.0)).0 found.1))
