-- A list whose first item has another start, and its last another end.
use Rattle.range_edit.proofs.Common.{common_steps, ◌≡◌, ◌+◌, ◌-◌, ◌<◌, ◌≤◌, ℕ, suc, List, [], ◌∷◌, ◌++◌, length, take, drop, get_or, refl, ap, sym, ◌∙◌, arith, Option, Some, None, Bool, inl, inr, append_assoc, take_at, drop_at, ◌⊎◌, drop-drop, set, Every, slice_get, IsEquivalence, Bound, KeyOrder, every_weaker, Any, AnyRange, Item, with_start, with_end, HasValue, with_first_start, with_last_end}

-- the last of some items
pub last_of : {X : Type 0} (x : X) (xs : List X)
    → (front : List X) × (m : X) × (x ∷ xs ≡ front ++ m ∷ [])
    × (slice_get (x ∷ xs) (length (x ∷ xs) - 1) ≡ Some m)
last_of x [] = ([], x, refl, refl)
last_of x (y ∷ ys) =
    let rest = last_of y ys in
    let at : length (x ∷ y ∷ ys) - 1 ≡ suc (length (y ∷ ys) - 1) = omega arith in
    (x ∷ rest.0, rest.1, ap (λ zs. x ∷ zs) rest.2, ap (slice_get (x ∷ y ∷ ys)) at ∙ rest.3)

-- no items, or some with a last one
pub ending : {X : Type 0} (xs : List X) → (xs ≡ []) ⊎ ((front : List X) × (m : X)
    × (xs ≡ front ++ m ∷ []) × (slice_get xs (length xs - 1) ≡ Some m))
ending [] = inl refl
ending (x ∷ xs) = inr (last_of x xs)

pub regrouped_last : {X : Type 0} (a b c : List X) (z : X)
    → (a ++ (b ++ z ∷ [])) ++ c ≡ (a ++ b) ++ z ∷ c
regrouped_last a b c z = simp append_assoc

-- what stands before a cursor that put the items before, and what comes later
put_parts : {X : Type 0} (before now done : List X) (place left less : ℕ)
    → now ≡ take place before ++ done ++ drop (place + (left - less)) before
    → place + left ≤ length before → (take (place + length done) now ≡ take place before ++ done)
    × ((n : ℕ) → drop (place + length done + n) now ≡ drop (place + (left - less) + n) before)
put_parts before now done place left less was within =
    let size : length (take place before ++ done) ≡ place + length done = grind (arith, common_steps) in
    let rest = drop (place + (left - less)) before in
    let at = place + length done in (
      ap (take at) was ∙ take_at (take place before ++ done) rest at size,
      λ n. sym (drop-drop n at now) ∙ (ap (drop n) (ap (drop at) was ∙ drop_at
          (take place before ++ done) rest at size) ∙ drop-drop n (place + (left - less)) before),
    )

-- some of a run gave way to the items before, and one more gives way
pub put_next : {X : Type 0} (before now new done : List X) (place left less fewer : ℕ) (x : X)
    → now ≡ take place before ++ done ++ drop (place + (left - less)) before
    → less ≡ left - length done → place + left ≤ length before → fewer ≡ less - 1
    → new ≡ take (place + length done) now ++ x ∷ drop (place + length done + (less - fewer)) now
    → new ≡ take place before ++ (done ++ x ∷ []) ++ drop (place + (left - fewer)) before
put_next before now new done place left less fewer x was few within one changed = grind (arith, common_steps, put_parts, regrouped_last)

-- the rest of the run is removed
pub put_all : {X : Type 0} (before now new done : List X) (place left less : ℕ)
    → now ≡ take place before ++ done ++ drop (place + (left - less)) before
    → less ≡ left - length done → place + left ≤ length before
    → new ≡ take (place + length done) now ++ drop (place + length done + less) now
    → new ≡ take place before ++ done ++ drop (place + left) before
put_all before now new done place left less was few within changed = grind (arith, common_steps, put_parts)

module _ {K V : Type 0} where
  pub with_last : (b : Bound K) (front : List (Item (AnyRange K) V)) (z : Item (AnyRange K) V)
      → with_last_end (Some b) (front ++ z ∷ []) ≡ front ++ with_end z b ∷ []
  with_last b [] z = refl
  with_last b (i ∷ []) z = refl
  with_last b (i ∷ j ∷ rest) z = ap (λ ys. i ∷ ys) (with_last b (j ∷ rest) z)

  -- another start at the front leaves the last item its end and its value
  pub started_last : (start : Option (Bound K)) (front : List (Item (AnyRange K) V))
      (m : Item (AnyRange K) V) → (more : List (Item (AnyRange K) V)) × (z : Item (AnyRange K) V)
      × (with_first_start start (front ++ m ∷ []) ≡ more ++ z ∷ []) × (z.key.end ≡ m.key.end)
      × (z.value ≡ m.value)
  started_last None front m = (front, m, refl, refl, refl)
  started_last (Some b) [] m = ([], with_start m b, refl, refl, refl)
  started_last (Some b) (i ∷ rest) m = (with_start i b ∷ rest, m, refl, refl, refl)

  pub length_started : (start : Option (Bound K)) (xs : List (Item (AnyRange K) V))
      → length (with_first_start start xs) ≡ length xs
  length_started start xs = grind (arith, common_steps)

  pub length_ended : (finish : Option (Bound K)) (xs : List (Item (AnyRange K) V))
      → length (with_last_end finish xs) ≡ length xs
  length_ended None xs = refl
  length_ended (Some b) [] = refl
  length_ended (Some b) (i ∷ []) = refl
  length_ended (Some b) (i ∷ j ∷ rest) = grind (arith, common_steps, length_ended (Some b) (j ∷ rest))

  -- what holds of each item, and of one with another outer bound, holds of each once it has that
  pub every_started : (P : Item (AnyRange K) V → Type 0) (start : Option (Bound K))
      (xs : List (Item (AnyRange K) V))
      → ((i : Item (AnyRange K) V) (b : Bound K) → start ≡ Some b → P i → P (with_start i b))
      → Every P xs → Every P (with_first_start start xs)
  every_started P start xs f h = grind (arith, common_steps)

  pub every_ended : (P : Item (AnyRange K) V → Type 0) (finish : Option (Bound K))
      (xs : List (Item (AnyRange K) V))
      → ((i : Item (AnyRange K) V) (b : Bound K) → finish ≡ Some b → P i → P (with_end i b))
      → Every P xs → Every P (with_last_end finish xs)
  every_ended P None xs f h = h
  every_ended P (Some b) [] f h = h
  every_ended P (Some b) (i ∷ []) f h = (f i b refl h.0, tt)
  every_ended P (Some b) (i ∷ j ∷ rest) f h = (h.0, every_ended P (Some b) (j ∷ rest) f h.1)

  pub any_ended : (P : Item (AnyRange K) V → Type 0) (finish : Option (Bound K))
      (xs : List (Item (AnyRange K) V))
      → ((i : Item (AnyRange K) V) (b : Bound K) → finish ≡ Some b → P i → P (with_end i b))
      → Any P xs → Any P (with_last_end finish xs)
  any_ended P None xs f h = h
  any_ended P (Some b) [] f h = h
  any_ended P (Some b) (i ∷ []) f (inl h) = inl (f i b refl h)
  any_ended P (Some b) (i ∷ []) f (inr h) = absurd h
  any_ended P (Some b) (i ∷ j ∷ rest) f (inl h) = inl h
  any_ended P (Some b) (i ∷ j ∷ rest) f (inr h) = inr (any_ended P (Some b) (j ∷ rest) f h)

  -- a write of the last item's end
  pub set_last : (xs : List (Item (AnyRange K) V)) (x : Item (AnyRange K) V) (b : Bound K)
      → 0 < length xs → x ≡ get_or xs (length xs - 1) x
      → set xs (length xs - 1) (with_end x b) ≡ with_last_end (Some b) xs
  set_last [] x b some e = absurd (omega arith)
  set_last (i ∷ []) x b some e = ap (λ y. with_end y b ∷ []) e
  set_last (i ∷ j ∷ rest) x b some e =
      let at : length (i ∷ j ∷ rest) - 1 ≡ suc (length (j ∷ rest) - 1) = omega arith in
      let read : x ≡ get_or (j ∷ rest) (length (j ∷ rest) - 1) x =
      e ∙ ap (λ n. get_or (i ∷ j ∷ rest) n x) at in
      ap (λ n. set (i ∷ j ∷ rest) n (with_end x b)) at
      ∙ ap (λ ys. i ∷ ys) (set_last (j ∷ rest) x b (omega arith) read)

  -- each item has the value of one of them
  pub own_values : (order : KeyOrder K) (same : V → V → Bool) → IsEquivalence same
      → (xs : List (Item (AnyRange K) V)) → Every (λ j. HasValue order same xs j.value) xs
  own_values order same equal [] = tt
  own_values order same equal (x ∷ xs) = grind (arith, common_steps, own_values order same equal xs, every_weaker)
