-- Which pairs a list with sets has, read off what it binds, and what an update makes of them.
use Rattle.std.proofs.Common.{◌≡◌, refl, ◌∙◌, ◌↔◌, ◌⊎◌, inl, inr, Bool, not, ◌&&◌, ◌||◌, IsTrue, List, [], ◌∷◌, Option, Some, None, Result, Ok, Err, OnOk, arith}
use Rattle.std.specs.Prelude.{IfSome, IsNone}
use denote.Ref.{Bor}
use Rattle.std.specs.List.{AllByRecursion as Every}
use Rattle.std.specs.Option.{option_copied}
use Rattle.std.specs.Fn.{Shared}
use Rattle.std.specs.Cmp.{IsEquivalence}
use Rattle.range_keys.specs.Order.{KeyOrder, IsLawful}
use Rattle.range_keys.specs.Position.{position_cmp, start_position, end_position}
use Rattle.range_keys.proofs.Orderings.{greater_or_not}
use Rattle.range_algebra.specs.Range.{Holds, IsEmptyRange}
use Rattle.range_algebra.specs.declared.any.AnyRange.{AnyRange}
use Rattle.range_store.specs.declared.storage.Item.{Item}
use Rattle.range_runs.specs.Answers.{IsAsAnswered, MayAnswer, IsUpdated}
use Rattle.range_runs.specs.Bindings.{IsBound, IsItemFor, BindsTo, Binds}
use Rattle.range_reads.specs.ListOrder.{IsCopyOf}
use Rattle.range_runs.specs.Frames.{HasValue}
use Rattle.range_map.specs.Rebinding.{AreRebound}
use Rattle.range_multimaps.specs.Members.{HasNone, HaveSame, HasAlso, HasAllBut, among}
use Rattle.range_multimaps.specs.Pairs.{HasNoEmptySet, HasPair, IsUnpaired, AreValuesAt, HasPairsAlso, HasPairsWithout, StayBound}
use Rattle.range_multimaps.proofs.Filled.{each_after}
use Rattle.range_multimaps.proofs.Keeping.{gave_way_to_such}
use Rattle.range_algebra.proofs.Lists.{every_weaker}
use Rattle.range_algebra.proofs.Meeting.{held_or_not}
use Rattle.range_runs.proofs.RangePieces.{any_use}
use Rattle.range_runs.proofs.Overlaps.{binds_bound}

module _ {K : Type 0} (order : KeyOrder K) {S V : Type 0} {same : S → S → Bool}
    (equal : IsEquivalence same) {has : S → V → Bool}
    (respects : (s t : S) → IsTrue (same s t) → HaveSame has s t) where
  abbrev Items : Type 0
  Items = List (Item (AnyRange K) S)

  -- a list binds the key once
  abbrev pub IsOnce : Items → K → Type 0
  IsOnce items k = (s t : S) → BindsTo order same items k s → BindsTo order same items k t
      → IsTrue (same s t)

  module _ (k : K) where
    bound_set_gives_pair : (items : Items) (s : S) (w : V) → BindsTo order same items k s
        → IsTrue (has s w) → HasPair order has items k w
    bound_set_gives_pair [] s w b h = absurd b
    bound_set_gives_pair (i ∷ rest) s w b h =
        grind (arith, respects i.value s, bound_set_gives_pair rest s w)

    pair_bound : (items : Items) (w : V) → HasPair order has items k w → IsBound order items k
    pair_bound [] w h = h
    pair_bound (i ∷ rest) w h = grind (arith, pair_bound rest w)

    pair_is_in_bound_set : (items : Items) (w : V) → HasPair order has items k w
        → (s : S) × BindsTo order same items k s × IsTrue (has s w)
    pair_is_in_bound_set [] w p = absurd p
    pair_is_in_bound_set (i ∷ rest) w p = grind (arith, pair_is_in_bound_set rest w)

    pub values_at : (items : Items) (b : Option S) → IsOnce items k → Binds order same items k b
        → AreValuesAt order has items k b
    values_at items None once bound w = grind (arith, pair_bound items w)
    values_at items (Some s) once bound w =
        grind (arith, respects, pair_is_in_bound_set items w, bound_set_gives_pair items s w)

    -- a stored range that holds the key binds it to its set
    item_binds : (items : Items) (i : Item (AnyRange K) S) → IsItemFor order items k i
        → BindsTo order same items k i.value
    item_binds [] i at = absurd at.1
    item_binds (j ∷ rest) i at = grind (arith, item_binds rest i)

    pub values_of_item : (items : Items) (i : Item (AnyRange K) S) → IsOnce items k
        → IsItemFor order items k i → AreValuesAt order has items k (Some i.value)
    values_of_item items i once at = values_at items (Some i.value) once (item_binds items i at)

    -- what binds alike pairs alike
    pairs_as : (items others : Items) (w : V)
        → ((b : Option S) → Binds order same items k b → Binds order same others k b)
        → HasPair order has items k w → HasPair order has others k w
    pairs_as items others w alike h =
        let (s, b, m) = pair_is_in_bound_set items w h in
        bound_set_gives_pair others s w (alike (Some s) b) m

    as_itself : (answer : Option S) → IsAsAnswered same answer answer
    as_itself None = refl
    as_itself (Some s) = equal.refl s

    -- what a key is bound to is equal to what it was found bound to
    bound_as : (items : Items) (old b : Option S) → IsOnce items k → Binds order same items k old
        → Binds order same items k b ↔ IsAsAnswered same old b
    bound_as items None None once was = (λ h. refl, λ h. was)
    bound_as items None (Some t) once was = grind (arith, binds_bound order same items k t)
    bound_as items (Some s) None once was = grind (arith, binds_bound order same items k s)
    bound_as items (Some s) (Some t) once was = (λ h. once s t was h, λ e. as_well items e was)
      where
        as_well : (xs : Items) → IsTrue (same s t) → BindsTo order same xs k s
            → BindsTo order same xs k t
        as_well [] e h = h
        as_well (i ∷ rest) e h = grind (arith, as_well rest e)

    as_too : (a b c : Option S) → IsAsAnswered same a b → IsAsAnswered same b c
        ↔ IsAsAnswered same a c
    as_too None b c e = rw e ((λ h. h, λ h. h))
    as_too (Some s) None c e = absurd e
    as_too (Some s) (Some t) None e = (λ h. h, λ h. h)
    as_too (Some s) (Some t) (Some u) e = grind arith

  module _ {E : Type 0} {may : Option S → Result (Option S) E → Type 0} {items next : Items}
      {r : AnyRange K} (now : AreRebound order same may items next r) (lawful : IsLawful order)
      (once : (k : K) → order.is_key k → IsOnce items k)
      (next_once : (k : K) → order.is_key k → IsOnce next k) where
    -- the values of a held key are as an answer makes them
    record IsMoved (k : K) (w : V) : Type 0 where
      pub old : Option S
      pub answer : Option S
      pub given : may old (Ok answer)
      pub before : HasPair order has items k w ↔ IsTrue (among has old w)
      pub after : HasPair order has next k w ↔ IsTrue (among has answer w)

    held_key_moves : (k : K) → order.is_key k → Holds order r k → (w : V) → IsMoved k w
    held_key_moves k key held w = grind (arith, as_itself, values_at)

    -- where each answer has the values of which a test is true too, or has them no more
    module _ (is : V → Bool) where
      pub all_added : ((old answer : Option S) → may old (Ok answer)
          → (w : V) → among has answer w ≡ (is w || among has old w))
          → (k : K) → order.is_key k → (w : V)
          → HasPair order has next k w
          ↔ (HasPair order has items k w ⊎ (Holds order r k × IsTrue (is w)))
      all_added told k key w = elim (held_or_not order lawful r k) [
        | inl held ↦
            let m = held_key_moves k key held w in
            let e = told m.old m.answer m.given w in
            grind arith
        | inr out ↦ grind (arith, pairs_as)
      ]

      pub all_removed : ((old answer : Option S) → may old (Ok answer)
          → (w : V) → among has answer w ≡ (not (is w) && among has old w))
          → (k : K) → order.is_key k → (w : V)
          → HasPair order has next k w
          ↔ (HasPair order has items k w × ¬ (Holds order r k × IsTrue (is w)))
      all_removed told k key w = elim (held_or_not order lawful r k) [
        | inl held ↦
            let m = held_key_moves k key held w in
            let e = told m.old m.answer m.given w in
            grind arith
        | inr out ↦ grind (arith, pairs_as)
      ]

    module _ (eq : V → V → Bool) (v : V) where
      pub added : ((old answer : Option S) → may old (Ok answer) → HasAlso has eq old answer v)
          → HasPairsAlso order has eq items next r v
      added told = all_added (eq v) told

      pub removed : ((old answer : Option S) → may old (Ok answer) → HasAllBut has eq old answer v)
          → HasPairsWithout order has eq items next r v
      removed told = all_removed (eq v) told

    -- what is answered by an equal set is bound as before
    pub stay_bound : (P : K → Type 0)
        → ((k : K) → order.is_key k → P k → (old answer : Option S) → Binds order same items k old
        → may old (Ok answer) → IsAsAnswered same old answer) → StayBound order same items next P
    stay_bound P told k key here b = elim (held_or_not order lawful r k) [
      | inl held ↦ grind (arith, as_too, bound_as)
      | inr out ↦ now.others k key out b
    ]

module _ {K : Type 0} (order : KeyOrder K) {S : Type 0} {same : S → S → Bool}
    (equal : IsEquivalence same) {is_void : S → Type 0}
    (void_equal : (s t : S) → IsTrue (same s t) → is_void s → is_void t) where
  from_run : (run : List (Item (AnyRange K) S)) (s : S) → HasNoEmptySet is_void run
      → HasValue order same run s → ¬ is_void s
  from_run run s full was void =
      any_use (λ i. IsTrue (same s i.value)) (λ i. ¬ is_void i.value) run was full
      (λ i e here. here (void_equal s i.value e void))

  from_answer : (answer : Option S) (s : S) → IfSome answer (λ t. ¬ is_void t)
      → IsAsAnswered same answer (Some s) → ¬ is_void s
  from_answer None s full e void = cc
  from_answer (Some t) s full e void = full (void_equal s t (equal.symm s t ∙ e) void)

  others_full : (run others : List (Item (AnyRange K) S)) → HasNoEmptySet is_void run
      → Every (λ j. HasValue order same run j.value ⊎ ¬ is_void j.value) others
      → HasNoEmptySet is_void others
  others_full run others full = grind (arith, every_weaker, from_run)

  pub stays_full : {F E : Type 0}
      {calls : Shared F (Option (Bor S) × Unit {0}) (Result (Option S) E)} {f : F}
      {items next : List (Item (AnyRange K) S)} {r : AnyRange K}
      → ((¬ IsEmptyRange order r) → IsUpdated order same calls f items next r)
      → ((old answer : Option S) → MayAnswer calls f old (Ok answer)
      → IfSome answer (λ s. ¬ is_void s)) → HasNoEmptySet is_void items
      → (IsEmptyRange order r → next ≡ items) → HasNoEmptySet is_void next
  stays_full {r} updated told full unchanged =
      elim (greater_or_not (position_cmp order.cmp (start_position order r.start)
      (end_position order r.end))) [
        | inl empty ↦ rw (unchanged empty) full
        | inr nonempty ↦
            let way = gave_way_to_such order {IsSuch = λ s. ¬ is_void s}
            (λ old answer may s. from_answer answer s (told old answer may)) (updated nonempty) in
            each_after (λ i. ¬ is_void i.value) way full
            (λ run. others_full way.run way.others run way.such.valued)
      ]

pub not_refused : {A E P : Type 0} (r : Result A E) → OnOk r P → ((e : E) → r ≡ Err e → ⊥) → P
not_refused (Ok x) h never = h
not_refused (Err e) h never = absurd (never e refl)

module _ {K : Type 0} (order : KeyOrder K) {S : Type 0} {same : S → S → Bool}
    (equal : IsEquivalence same) {is_void : S → Type 0}
    (void_equal : (s t : S) → IsTrue (same s t) → is_void s → is_void t) (k : K) where
  full_bound : (items : List (Item (AnyRange K) S)) (s : S) → HasNoEmptySet is_void items
      → BindsTo order same items k s → ¬ is_void s
  full_bound [] s full h void = h
  full_bound (i ∷ rest) s full h void = grind (arith, full_bound rest s)

  pub full_at : (items : List (Item (AnyRange K) S)) → HasNoEmptySet is_void items
      → (result : Option (Bor S)) → Binds order same items k (option_copied result)
      → IfSome result (λ s. ¬ is_void s.now)
  full_at items full None h = tt
  full_at items full (Some s) h = full_bound items s.now full h

  pub full_some : (items : List (Item (AnyRange K) S)) → HasNoEmptySet is_void items
      → (b : Option S) → Binds order same items k b → IfSome b (λ s. ¬ is_void s)
  full_some items full None h = tt
  full_some items full (Some s) h = full_bound items s full h

module _ {K : Type 0} (order : KeyOrder K) {S : Type 0} (same : S → S → Bool) (is_void : S → Type 0)
    (void_equal : (s t : S) → IsTrue (same s t) → is_void s → is_void t) where
  -- a copy has no empty set either
  pub copied_full : (copy items : List (Item (AnyRange K) S)) → IsCopyOf order same copy items
      → HasNoEmptySet is_void items → HasNoEmptySet is_void copy
  copied_full [] [] zip full = tt
  copied_full (i ∷ copy) (j ∷ items) zip full = grind (arith, copied_full copy items zip.1 full.1)
  copied_full copy items zip full = absurd zip

module _ {K : Type 0} (order : KeyOrder K) {S V : Type 0} {has : S → V → Bool}
    {is_void : S → Type 0} (void_is : (s : S) → is_void s ↔ HasNone has s) (k : K) where
  -- there is no set exactly where no value is paired with the key
  pub none_unpaired : (items : List (Item (AnyRange K) S)) (result : Option (Bor S))
      → AreValuesAt order has items k (option_copied result) → IfSome result (λ s. ¬ is_void s.now)
      → IsNone result ↔ IsUnpaired order has items k
  none_unpaired items None values full = (λ _ v h. let no = (values v).0 h in cc, λ _. refl)
  none_unpaired items (Some s) values full = grind arith
