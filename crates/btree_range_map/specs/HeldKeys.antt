-- Which keys a range holds, and which range of a list holds a key: laws that callers cite in proofs.
use Rattle.std.specs.Prelude.{true, Bool, List, Option, Some, None, [], ◌∷◌, ◌⊎◌, ◌↔◌, refl}
use Rattle.std.proofs.Common.{inl, inr}
use Rattle.std.specs.List.{AllByRecursion}
use Rattle.std.specs.declared.ops.Bound.{Bound}
use Rattle.std.specs.declared.ops.Bound.TheVariants.{Included, Excluded, Unbounded}
use Rattle.range_keys.specs.Order.{KeyOrder, IsComplete, IsLawful, Below, NotAbove}
use Rattle.range_keys.proofs.Orderings.{not_greater}
use Rattle.range_algebra.specs.Extremes.{IsLeastOf, IsGreatestOf}
use Rattle.range_algebra.specs.Intervals.{Any}
use Rattle.range_algebra.specs.Orders.{cases, le_refl, le_trans, le_lt_trans, lt_le_trans, lt_trans, lt_not_le, lt_le}
use Rattle.range_algebra.specs.Range.{Holds, StartHolds, EndHolds, IsKeyless}
use Rattle.range_algebra.specs.Relations.{AreBelow, LiesBetween}
use Rattle.range_algebra.proofs.Completeness.{nonempty_holds}
use Rattle.range_algebra.proofs.Meeting.{held_or_not as holds_or_not}
use Rattle.range_algebra.specs.declared.any.AnyRange.{AnyRange}
use Rattle.range_store.specs.declared.storage.Item.{Item}
use Rattle.range_runs.specs.Bindings.{IsBound, IsCoarse}
use Rattle.range_runs.specs.Neighbours.{EachNext}
use Rattle.range_runs.proofs.Overlaps.{binding_meets}
use Rattle.range_merge.specs.Combining.{IsConstantOn, IsSharedPart}
use Rattle.range_merge.proofs.HeldInside.{lies_in_holds}
use Rattle.range_reads.specs.FreeRanges.{item_ranges}
use Rattle.range_sets.specs.KeySets.{HoldsKey, SomeHolds}

-- a list of items holds a key just where one of its ranges does
pub held_by_ranges : {K V : Type 0} (order : KeyOrder K) (items : List (Item (AnyRange K) V))
    (k : K) → HoldsKey order items k ↔ SomeHolds order (item_ranges items) k
held_by_ranges order [] k = (λ h. h, λ h. h)
held_by_ranges order (i ∷ rest) k =
    let later = held_by_ranges order rest k in (
      λ h. elim h [ inl here ↦ inl here | inr there ↦ inr (later.0 there) ],
      λ h. elim h [ inl here ↦ inl here | inr there ↦ inr (later.1 there) ],
    )

-- the key is bound where there is a value, and nowhere else
abbrev pub IsBoundWhere : {K V : Type 0} → KeyOrder K → List (Item (AnyRange K) V) → K → Option V
    → Type 0
IsBoundWhere order items k None = ¬ IsBound order items k
IsBoundWhere order items k (Some v) = IsBound order items k

module _ {K : Type 0} (order : KeyOrder K) (lawful : IsLawful order) where
  bound_where : {V : Type 0} (part : AnyRange K) (k : K) → order.is_key k → Holds order part k
      → (items : List (Item (AnyRange K) V)) (value : Option V) → IsConstantOn order items part value
      → IsBoundWhere order items k value
  bound_where part k key held items None apart =
      λ bound. apart (binding_meets order lawful items part (k, key, held, bound)).1
  bound_where part k key held [] (Some v) none = absurd none
  bound_where part k key held (i ∷ rest) (Some v) (inl here) =
      inl (lies_in_holds lawful k key part i.key here.0 held)
  bound_where part k key held (i ∷ rest) (Some v) (inr later) =
      inr (bound_where part k key held rest (Some v) later)

  -- over complete keys a part on which two lists are constant has a key, which both bind as the part
  pub shared_part_has_key : {V W : Type 0} (items : List (Item (AnyRange K) V))
      (others : List (Item (AnyRange K) W)) (part : AnyRange K) (left : Option V)
      (right : Option W) → IsComplete order → IsSharedPart order items others part left right
      → (k : K) × order.is_key k × Holds order part k × IsBoundWhere order items k left
      × IsBoundWhere order others k right
  shared_part_has_key items others part left right complete is =
      let found =
      nonempty_holds order lawful complete part is.known (not_greater _ is.nonempty) in (
        found.0,
        found.1,
        found.2,
        bound_where part found.0 found.1 found.2 items left is.first,
        bound_where part found.0 found.1 found.2 others right is.second,
      )

  -- a range holds a key, or it does not
  pub held_or_not : (r : AnyRange K) (k : K) → Holds order r k ⊎ (¬ Holds order r k)
  held_or_not r k = holds_or_not order lawful r k

  start_holds_above : (b : Bound K) (j k : K) → StartHolds order b j → NotAbove order j k
      → StartHolds order b k
  start_holds_above (Included a) j k h l = le_trans order.cmp lawful.total a j k h l
  start_holds_above (Excluded a) j k h l = lt_le_trans order.cmp lawful.total a j k h l
  start_holds_above Unbounded j k h l = tt

  end_holds_below : (b : Bound K) (j k : K) → EndHolds order b j → NotAbove order k j
      → EndHolds order b k
  end_holds_below (Included b) j k h l = le_trans order.cmp lawful.total k j b l h
  end_holds_below (Excluded b) j k h l = le_lt_trans order.cmp lawful.total k j b l h
  end_holds_below Unbounded j k h l = tt

  -- a range holds each key between two that it holds
  pub held_between : (r : AnyRange K) (a b k : K) → Holds order r a → Holds order r b
      → NotAbove order a k → NotAbove order k b → Holds order r k
  held_between r a b k h g l u =
      (start_holds_above r.start a k h.0 l, end_holds_below r.end b k g.1 u)

  -- a range holds just the keys from its least to its greatest
  pub held_from_least_to_greatest : (r : AnyRange K) (first last : K) → IsLeastOf order r first
      → IsGreatestOf order r last → (k : K) → order.is_key k → Holds order r k
      ↔ (NotAbove order first k × NotAbove order k last)
  held_from_least_to_greatest r first last least greatest k key = (
    λ h. (least.1 k key h, greatest.1 k key h),
    λ h. held_between r first last k least.0 greatest.0 h.0 h.1,
  )

  irreflexive : (k : K) → Below order k k → ⊥
  irreflexive k l = lt_not_le order.cmp lawful.total k k l (le_refl order.cmp lawful.total k)

  module _ {V : Type 0} where
    later_above : (i : Item (AnyRange K) V) (items : List (Item (AnyRange K) V))
        → AllByRecursion (λ i. ¬ IsKeyless order i.key) items
        → EachNext (λ i j. AreBelow order i.key j.key) (i ∷ items) → (a b : K) → order.is_key a
        → order.is_key b → Holds order i.key a → IsBound order items b → Below order a b
    later_above i [] keyed rising a b p q has none = absurd none
    later_above i (j ∷ items) keyed rising a b p q has (inl here) = rising.0 a b p q has here
    later_above i (j ∷ items) keyed rising a b p q has (inr later) =
        elim (cases order.cmp lawful.total a b) [
          | inl below ↦ below
          | inr not ↦
              absurd (keyed.0 (λ c r in_j.
              lt_not_le order.cmp lawful.total a b
              (lt_trans order.cmp lawful.total a c b (rising.0 a c p r has in_j)
              (later_above j items keyed.1 rising.1 c b r q in_j later)) not))
        ]

    -- each key of the first range of a coarse list is less than all keys of the later ones
    pub held_later_is_above : (same_value : V → V → Bool) (i : Item (AnyRange K) V)
        (items : List (Item (AnyRange K) V)) → IsCoarse order same_value (i ∷ items) → (a b : K)
        → order.is_key a → order.is_key b → Holds order i.key a → IsBound order items b
        → Below order a b
    held_later_is_above same_value i items coarse =
        later_above i items coarse.keyed.1 coarse.rising

  -- a coarse list of a set
  abbrev Coarse : List (Item (AnyRange K) (Unit {0})) → Type 0
  Coarse items = IsCoarse order (λ _ _. true) items

  -- a key between two neighbours lies between all that they and the later ones hold
  between_all : (i j : Item (AnyRange K) (Unit {0})) (items : List (Item (AnyRange K) (Unit {0})))
      → Coarse (i ∷ j ∷ items) → (g b : K) → order.is_key g → order.is_key b
      → LiesBetween order i.key j.key g → IsBound order (j ∷ items) b → Below order g b
  between_all i j items coarse g b p q between (inl here) = between.1 b q here
  between_all i j items coarse g b p q between (inr later) =
      elim (cases order.cmp lawful.total g b) [
        | inl below ↦ below
        | inr not ↦
            absurd (coarse.keyed.1.0 (λ c r in_j.
            lt_not_le order.cmp lawful.total g b
            (lt_trans order.cmp lawful.total g c b (between.1 c r in_j)
            (later_above j items coarse.keyed.1.1 coarse.rising.1 c b r q in_j later)) not))
      ]

  -- all keys from the first to the second are held
  abbrev AreHeldBetween : List (Item (AnyRange K) (Unit {0})) → K → K → Type 0
  AreHeldBetween items a b = (k : K) → order.is_key k → NotAbove order a k → NotAbove order k b
      → IsBound order items k

  same_range : (i : Item (AnyRange K) (Unit {0})) (items : List (Item (AnyRange K) (Unit {0})))
      → Coarse (i ∷ items) → (a b : K) → order.is_key a → order.is_key b → NotAbove order a b
      → AreHeldBetween (i ∷ items) a b → Holds order i.key a → ¬ ¬ Holds order i.key b
  same_range i items coarse a b p q l held has out =
      let last = held b q l (le_refl order.cmp lawful.total b) in
      elim last [
        | inl here ↦ out here
        | inr later ↦ parted_there items coarse held later
      ]
    where
      parted_there : (items : List (Item (AnyRange K) (Unit {0}))) → Coarse (i ∷ items)
          → AreHeldBetween (i ∷ items) a b → IsBound order items b → ⊥
      parted_there [] coarse held later = later
      parted_there (j ∷ rest) coarse held later =
          coarse.parted.0 (
            coarse.rising.0,
            λ g r between.
                let above : Below order a g = between.0 a p has in
                let under : Below order g b = between_all i j rest coarse g b r q between later in
                elim (held g r (lt_le order.cmp lawful.total a g above)
                (lt_le order.cmp lawful.total g b under)) [
                  | inl in_i ↦ irreflexive g (between.0 g r in_i)
                  | inr in_later ↦ irreflexive g (between_all i j rest coarse g g r r between in_later)
                ],
          ) refl

  -- where a set holds all keys from one to another, one stored range holds both
  pub held_interval_is_in_one_range : (items : List (Item (AnyRange K) (Unit {0}))) → Coarse items
      → (a b : K) → order.is_key a → order.is_key b → NotAbove order a b
      → AreHeldBetween items a b
      → Any (λ i. Holds order i.key a × Holds order i.key b) items
  held_interval_is_in_one_range [] coarse a b p q l held =
      held a p (le_refl order.cmp lawful.total a) l
  held_interval_is_in_one_range (i ∷ items) coarse a b p q l held =
      elim (held a p (le_refl order.cmp lawful.total a) l) [
        | inl here ↦
            elim (held_or_not i.key b) [
              | inl there ↦ inl (here, there)
              | inr out ↦ absurd (same_range i items coarse a b p q l held here out)
            ]
        | inr later ↦
            inr (held_interval_is_in_one_range items
            (record { keyed = coarse.keyed.1; rising = coarse.rising.1; parted = coarse.parted.1 })
            a b p q l (λ k r from to.
            elim (held k r from to) [
              | inl in_i ↦
                  absurd (lt_not_le order.cmp lawful.total k a
                  (later_above i items coarse.keyed.1 coarse.rising k a r p in_i later) from)
              | inr in_later ↦ in_later
            ]))
      ]
