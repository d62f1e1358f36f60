-- Children under numbers, of which those of one change.
use Rattle.std.proofs.Common.{◌≡◌, ◌≢◌, ℕ, zero, suc, ◌+◌, ◌<◌, ◌≤◌, List, [], ◌∷◌, ◌++◌, length, get_or, cond, Option, Some, None, is_some, IsSome, refl, sym, ap, subst, ◌∙◌, inl, inr, arith, length-append, append-nil, ◌↔◌}
use Rattle.std.proofs.Math.ListN.{set, length-set}
use Rattle.std.specs.Prelude.{IfNone, OnSome}
use Rattle.std.specs.List.{remove}
use Rattle.std.proofs.lemmas.Bool.{both_ways, cases_eq, cases_lt}
use Rattle.std.proofs.lemmas.Option.{none-some, same_Some}
use Rattle.std.proofs.lemmas.List.{drop_all, take_all, ext_get_or, get_or_default, get_or-set_other, get_or-set_same, get_or_past, length-map, set-get_or}
use Rattle.std.proofs.lemmas.List.Sums.{sum_by-set, count_by-le-length, sum_by-append, sum_by-cons}
use Rattle.arrayvec.specs.ArrayVec.{ArrayVec}
use Rattle.slab.specs.Slab.{Slab, get, slab_len, with_value, Updates}
use Rattle.range_nodes.specs.Children.{AreKept, items_at, key_of, list_under, lists_under}
use Rattle.range_nodes.specs.Rows.{row_of}
use Rattle.range_nodes.proofs.Slots.{slot_count, slot_read}

-- the children under a number
pub list_read : (lists : Slab (ArrayVec ℕ)) (keys : List (Option ℕ)) (n : ℕ)
    → row_of (lists_under lists keys) n ≡ list_under lists (key_of keys n)
list_read lists [] n = refl
list_read lists (key ∷ keys) zero = refl
list_read lists (key ∷ keys) (suc n) = list_read lists keys n

-- those of a number with a key
pub list_at : (lists : Slab (ArrayVec ℕ)) (keys : List (Option ℕ)) (n k : ℕ)
    → key_of keys n ≡ Some k → {list : ArrayVec ℕ} → get lists k ≡ Some list
    → row_of (lists_under lists keys) n ≡ list.items
list_at lists keys n k is {list} at =
    list_read lists keys n ∙ ap (list_under lists) is ∙ ap items_at at

-- a number with a key
pub key_there : (keys : List (Option ℕ)) (n k : ℕ) → key_of keys n ≡ Some k → n < length keys
key_there [] n k is = absurd (none-some k is)
key_there (key ∷ keys) zero k is = omega arith
key_there (key ∷ keys) (suc n) k is = omega (arith, key_there keys n k is)

-- what was read as the key of a number is that
pub key_read : (lists : Slab (ArrayVec ℕ)) (keys : List (Option ℕ)) (n : ℕ)
    → n < length (lists_under lists keys) → {key : Option ℕ} → key ≡ get_or keys n key
    → key_of keys n ≡ key
key_read lists keys n there {key} read =
    sym
    (read
    ∙ get_or_default keys n key None (omega (arith, there, length-map keys (list_under lists))))

-- what `pop_at` leaves, whether or not it found an element
pub popped : (result : Option ℕ) (old new : ArrayVec ℕ) (i : ℕ)
    → (IsSome result ↔ (i < length old.items))
    → OnSome result (new.items ≡ remove old.items i) → IfNone result (new ≡ old)
    → new.items ≡ remove old.items i
popped (Some x) old new i found items absent = items
popped None old new i found items absent =
    let past : length old.items ≤ i =
    elim (cases_lt i (length old.items)) [
      | inl less ↦ absurd (both_ways _ refl (found.1 less))
      | inr past ↦ past
    ] in
    ap (λ v. v.items) absent
    ∙ sym
    (rw (take_all i old.items past, drop_all (suc i) old.items (omega (arith, past)))
    (append-nil old.items))

-- a number with children is there
pub row_within : (rows : List (List ℕ)) (n : ℕ) → 0 < length (row_of rows n) → n < length rows
row_within rows n some =
    elim (cases_lt n (length rows)) [
      | inl less ↦ less
      | inr past ↦ absurd (omega (arith, some, ap length (get_or_past rows n [] past)))
    ]

some_list : (slot : Option (ArrayVec ℕ)) → 0 < length (items_at slot) → IsSome slot
some_list None some = absurd (omega (arith, some))
some_list (Some list) some = refl

module _ {lists : Slab (ArrayVec ℕ)} {keys : List (Option ℕ)} (kept : AreKept lists keys) where
  -- a key has a list
  pub list_there : (n k : ℕ) → key_of keys n ≡ Some k → IsSome (get lists k)
  list_there n k is = some_list (get lists k) (kept.some n k is)

  -- a number without children has no key
  pub no_key : (n : ℕ) → row_of (lists_under lists keys) n ≡ [] → key_of keys n ≡ None
  no_key n none = without (key_of keys n) refl
    where
      without : (key : Option ℕ) → key_of keys n ≡ key → key_of keys n ≡ None
      without None is = is
      without (Some k) is =
          absurd (omega (
            arith,
            kept.some n k is,
            ap length (sym (ap (list_under lists) is) ∙ sym (list_read lists keys n) ∙ none),
          ))

  -- there is room for the list of a number without one
  pub has_room : (n : ℕ) → n < length (lists_under lists keys)
      → row_of (lists_under lists keys) n ≡ [] → slab_len lists + 1 ≤ lists.capacity
  has_room n there bare =
      let within : n < length keys = omega (arith, there, length-map keys (list_under lists)) in
      omega (
        arith,
        kept.many,
        kept.room,
        sum_by-set (λ o. cond (is_some o) 1 0) keys n (Some 0) None within,
        ap {B = ℕ} (λ key. cond (is_some key) 1 0) (no_key n bare),
        count_by-le-length is_some (set keys n (Some 0)),
        length-set keys n (Some 0),
      )

-- these children come to a number
pub record Relists (lists next : Slab (ArrayVec ℕ)) (keys now : List (Option ℕ)) (n : ℕ)
    (ks : List ℕ) : Type 0 where
  pub kept : AreKept next now
  pub are : lists_under next now ≡ set (lists_under lists keys) n ks

module _ (lists next : Slab (ArrayVec ℕ)) (keys : List (Option ℕ)) (kept : AreKept lists keys)
    (n : ℕ) (there : n < length keys) (slot : Option ℕ)
    (others : (m j : ℕ) → m ≢ n → key_of keys m ≡ Some j → get next j ≡ get lists j) where
  same_list : (m : ℕ) → m ≢ n → (key : Option ℕ) → key_of keys m ≡ key
      → list_under next key ≡ list_under lists key
  same_list m other None is = refl
  same_list m other (Some j) is = ap items_at (others m j other is)

  key_here : key_of (set keys n slot) n ≡ slot
  key_here = get_or-set_same keys n slot None there

  key_other : (m : ℕ) → m ≢ n → key_of (set keys n slot) m ≡ key_of keys m
  key_other m other = get_or-set_other keys n m slot None other

  long : length (lists_under lists keys) ≡ length keys
  long = length-map keys (list_under lists)

  relisted : lists_under next (set keys n slot)
      ≡ set (lists_under lists keys) n (list_under next slot)
  relisted =
      ext_get_or [] (lists_under next (set keys n slot))
      (set (lists_under lists keys) n (list_under next slot))
      (length-map (set keys n slot) (list_under next)
      ∙ length-set keys n slot
      ∙ sym (length-set (lists_under lists keys) n (list_under next slot) ∙ long))
      (λ i less.
      list_read next (set keys n slot) i
      ∙ elim (cases_eq i n) [
        | inl same ↦
            rw same
            (ap (list_under next) key_here
            ∙ sym (get_or-set_same (lists_under lists keys) n (list_under next slot) []
            (omega (arith, there, long))))
        | inr other ↦
            ap (list_under next) (key_other i other)
            ∙ same_list i other (key_of keys i) refl
            ∙ sym (list_read lists keys i)
            ∙ sym (get_or-set_other (lists_under lists keys) n i (list_under next slot) [] other)
      ])

  pub relists : ((j : ℕ) → slot ≡ Some j → 0 < length (items_at (get next j)))
      → ((m j : ℕ) → m ≢ n → slot ≡ Some j → key_of keys m ≢ Some j)
      → slab_len next + cond (is_some (key_of keys n)) 1 0
      ≡ slab_len lists + cond (is_some slot) 1 0
      → next.capacity ≡ lists.capacity → {ks : List ℕ} → list_under next slot ≡ ks
      → Relists lists next keys (set keys n slot) n ks
  relists some fresh counts capacity are = record {
    kept = record {
      some = λ m j is.
          elim (cases_eq m n) [
            | inl same ↦ some j (sym key_here ∙ ap (key_of (set keys n slot)) (sym same) ∙ is)
            | inr other ↦
                let was = sym (key_other m other) ∙ is in
                subst (λ slot. 0 < length (items_at slot)) (sym (others m j other was))
                (kept.some m j was)
          ];
      once = λ m l j is same.
          elim (cases_eq m n) [
            | inl first ↦
                elim (cases_eq l n) [
                  | inl second ↦ first ∙ sym second
                  | inr other ↦
                      absurd (fresh l j other
                      (sym key_here ∙ ap (key_of (set keys n slot)) (sym first) ∙ is)
                      (sym (key_other l other) ∙ same))
                ]
            | inr other ↦
                elim (cases_eq l n) [
                  | inl second ↦
                      absurd (fresh m j other
                      (sym key_here ∙ ap (key_of (set keys n slot)) (sym second) ∙ same)
                      (sym (key_other m other) ∙ is))
                  | inr apart ↦
                      kept.once m l j (sym (key_other m other) ∙ is)
                      (sym (key_other l apart) ∙ same)
                ]
          ];
      many =
          omega (
            arith,
            kept.many,
            counts,
            sum_by-set (λ o. cond (is_some o) 1 0) keys n slot None there,
          );
      room = omega (arith, kept.room, capacity, length-set keys n slot);
    };
    are = relisted ∙ ap (λ ks. set (lists_under lists keys) n ks) are;
  }

module _ {X : Type 0} (s : Slab X) (k : ℕ) (present : IsSome (get s k)) (x : X) where
  value_updates : Updates s (with_value s k x) k (Some x)
  value_updates = grind (arith, slot_read, get_or-set_other)

  value_len : slab_len (with_value s k x) ≡ slab_len s
  value_len = omega (arith, slot_count s.slots k present (Some x))

module _ {lists : Slab (ArrayVec ℕ)} {keys : List (Option ℕ)} (kept : AreKept lists keys)
    (n k : ℕ) (is : key_of keys n ≡ Some k) where
  -- the list of a number with a key was written
  pub rewritten : (list : ArrayVec ℕ) → 0 < length list.items
      → Relists lists (with_value lists k list) keys keys n list.items
  rewritten list some =
      let next = with_value lists k list in
      let present = list_there kept n k is in
      let updates = value_updates lists k present list in
      let same : set keys n (key_of keys n) ≡ keys = set-get_or keys n None in
      let here : list_under next (key_of keys n) ≡ list.items =
      ap (list_under next) is ∙ ap items_at updates.changed in
      subst (λ now. Relists lists next keys now n list.items) same
      (relists lists next keys kept n (key_there keys n k is) (key_of keys n)
      (λ m j other at. updates.others j
      (λ e. other (kept.once m n k (at ∙ ap (λ i. Some i) e) is)))
      (λ j at. subst (λ ks. 0 < length ks) (sym here ∙ ap (list_under next) at) some)
      (λ m j other at held. other (kept.once m n j held at))
      (omega (arith, value_len lists k present list)) refl here)

  -- it went, as it was or written
  pub cleared : {next : Slab (ArrayVec ℕ)} → Updates lists next k None
      → slab_len next + 1 ≡ slab_len lists → next.capacity ≡ lists.capacity
      → Relists lists next keys (set keys n None) n []
  cleared {next} updates len capacity =
      relists lists next keys kept n (key_there keys n k is) None
      (λ m j other at. updates.others j
      (λ e. other (kept.once m n k (at ∙ ap (λ i. Some i) e) is)))
      (λ j at. absurd (none-some j at)) (λ m j other at held. none-some j at)
      (omega (arith, len, ap {B = ℕ} (λ key. cond (is_some key) 1 0) is)) capacity refl

  pub cleared_after : {next : Slab (ArrayVec ℕ)} → (list : ArrayVec ℕ)
      → Updates (with_value lists k list) next k None
      → slab_len next + 1 ≡ slab_len (with_value lists k list)
      → next.capacity ≡ lists.capacity → Relists lists next keys (set keys n None) n []
  cleared_after list updates len capacity =
      let present = list_there kept n k is in
      let first = value_updates lists k present list in
      cleared
      (record {
        changed = updates.changed;
        others = λ m other. updates.others m other ∙ first.others m other;
      }) (omega (arith, len, value_len lists k present list)) capacity

module _ {lists next : Slab (ArrayVec ℕ)} {keys : List (Option ℕ)} (kept : AreKept lists keys)
    (n : ℕ) where
  -- a number without a key got a list
  pub given : n < length (lists_under lists keys) → row_of (lists_under lists keys) n ≡ []
      → (k : ℕ) → get lists k ≡ None
      → {list : ArrayVec ℕ} → 0 < length list.items → Updates lists next k (Some list)
      → slab_len next ≡ slab_len lists + 1 → next.capacity ≡ lists.capacity
      → Relists lists next keys (set keys n (Some k)) n list.items
  given there bare k vacant {list} some updates len capacity =
      let none = no_key kept n bare in
      let free : (m j : ℕ) → key_of keys m ≡ Some j → j ≢ k = λ m j at e.
      omega (arith, kept.some m j at, ap length (ap items_at (ap (get lists) e ∙ vacant))) in
      relists lists next keys kept n (omega (arith, there, length-map keys (list_under lists))) (Some k)
      (λ m j other at. updates.others j (free m j at))
      (λ j at. subst (λ i. 0 < length (items_at (get next i))) (same_Some k j at)
      (subst (λ slot. 0 < length (items_at slot)) (sym updates.changed) some))
      (λ m j other at held. free m j held (sym (same_Some k j at)))
      (omega (arith, len, ap {B = ℕ} (λ key. cond (is_some key) 1 0) none)) capacity
      (ap items_at updates.changed)

-- a number without children was added
module _ {lists : Slab (ArrayVec ℕ)} {keys : List (Option ℕ)} (kept : AreKept lists keys)
    (room : length keys < lists.capacity) where
  old_key : (n k : ℕ) → key_of (keys ++ None ∷ []) n ≡ Some k → key_of keys n ≡ Some k
  old_key n k is = read keys n is
    where
      read : (keys : List (Option ℕ)) (n : ℕ) → key_of (keys ++ None ∷ []) n ≡ Some k
          → key_of keys n ≡ Some k
      read [] zero is = is
      read [] (suc n) is = is
      read (key ∷ keys) zero is = is
      read (key ∷ keys) (suc n) is = read keys n is

  pub more_kept : AreKept lists (keys ++ None ∷ [])
  more_kept = record {
    some = λ n k is. kept.some n k (old_key n k is);
    once = λ n m k is same. kept.once n m k (old_key n k is) (old_key m k same);
    many = omega (
      arith,
      kept.many,
      sum_by-append (λ o. cond (is_some o) 1 0) keys (None ∷ []),
      sum_by-cons,
    );
    room = omega (arith, room, length-append keys (None ∷ []));
  }
