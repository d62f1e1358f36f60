-- Which items of a list are kept, one answer after the other.
use Rattle.range_map.proofs.Common.{common_steps, ◌≡◌, ◌∙◌, refl, sym, ap, ℕ, ◌+◌, ◌-◌, ◌<◌, ◌≤◌, Bool, true, false, List, [], ◌∷◌, ◌++◌, length, arith, subst, remove, slice_index_or, items_where_true, IsEquivalence, length-append, length_push, append_assoc, append-nil, remove-append_right, KeyOrder, IsLawful, Every, AnyRange, Item, BindsTo, Line, Follows, IsChain, line_of, IsStored, strictly_leads, stored_known, stored_chain, chain_stored, binds_bound, BindOnlyAsBefore}
use Rattle.std.specs.List.Retain.{ReturnsInTurn}
use Rattle.range_algebra.specs.Orders.{le_lt_trans, lt_le_trans}
use Rattle.range_bulk.proofs.BoundKeys.{bound_value, bound_to_equal}
use Rattle.range_map.proofs.Once.{bound_once}

every_kept : {X : Type 0} (P : X → Type 0) (bs : List Bool) (xs : List X) → Every P xs
    → Every P (items_where_true bs xs)
every_kept P (test ∷ bs) (x ∷ xs) h = grind (arith, common_steps, every_kept P bs xs h.1)
every_kept P bs xs h = tt

pub fewer_kept : {X : Type 0} (bs : List Bool) (xs : List X)
    → length (items_where_true bs xs) ≤ length xs
fewer_kept (test ∷ bs) (x ∷ xs) = grind (arith, common_steps, fewer_kept bs xs)
fewer_kept bs xs = omega arith

module _ {L V X : Type 0} (line : Line L V X) where
  follows_next : (x y : X) (ys : List X) → Follows line x (y ∷ ys) → Follows line x ys
  follows_next x y [] f = tt
  follows_next x y (z ∷ zs) f = (
    strictly_leads line x (line.lo z) (line.value z)
        (le_lt_trans line.cmp line.total (line.hi x) (line.lo y) (line.lo z) f.0.0
        (lt_le_trans line.cmp line.total (line.lo y) (line.hi y) (line.lo z) f.1.0 f.1.1.0.0)),
    f.1.1.1,
  )

  follows_kept : (x : X) (bs : List Bool) (ys : List X) → Follows line x ys
      → Follows line x (items_where_true bs ys)
  follows_kept x (true ∷ bs) (y ∷ ys) f = (f.0, (f.1.0, follows_kept y bs ys f.1.1))
  follows_kept x (false ∷ bs) (y ∷ ys) f = follows_kept x bs ys (follows_next x y ys f)
  follows_kept x bs ys f = tt

  chain_kept : (bs : List Bool) (xs : List X) → IsChain line xs
      → IsChain line (items_where_true bs xs)
  chain_kept (true ∷ bs) (x ∷ xs) h = (h.0, follows_kept x bs xs h.1)
  chain_kept (false ∷ bs) (x ∷ []) h = chain_kept bs [] tt
  chain_kept (false ∷ bs) (x ∷ y ∷ xs) h = chain_kept bs _ h.1.1
  chain_kept bs xs h = tt

module _ {K : Type 0} {order : KeyOrder K} (lawful : IsLawful order) {V : Type 0}
    {same : V → V → Bool} (equal : IsEquivalence same) where
  -- what is kept of a stored list is in its form
  pub kept_stored : (bs : List Bool) (items : List (Item (AnyRange K) V))
      → IsStored order same items → IsStored order same (items_where_true bs items)
  kept_stored bs items form =
      chain_stored order lawful same equal (items_where_true bs items)
      (every_kept _ bs items (stored_known order lawful same equal items form))
      (chain_kept (line_of order lawful same equal) bs items
      (stored_chain order lawful same equal items form))

  kept_binds : (bs : List Bool) (items : List (Item (AnyRange K) V)) (k : K) (v : V)
      → BindsTo order same (items_where_true bs items) k v → BindsTo order same items k v
  kept_binds [] items k v h = absurd h
  kept_binds (b ∷ bs) [] k v h = h
  kept_binds (test ∷ bs) (i ∷ items) k v either = grind (arith, kept_binds bs items k v)

  -- a key that is bound in what is kept is bound as before
  pub kept_as_before : (bs : List Bool) (items : List (Item (AnyRange K) V))
      → IsStored order same items → BindOnlyAsBefore order same items (items_where_true bs items)
  kept_as_before bs items form k key bound b =
      grind (arith, common_steps, bound_value, binds_bound, kept_binds, bound_to_equal, bound_once)

module _ {X F : Type 0} (R : F → X → Bool → F → Type 0) where
  told_more : (s f g : F) (bs : List Bool) (b : Bool) (done : List X) (x : X)
      → length bs ≡ length done → ReturnsInTurn R s bs done f → R f x b g
      → ReturnsInTurn R s (bs ++ b ∷ []) (done ++ x ∷ []) g
  told_more s f g [] b [] x size told one = (g, subst (λ t. R t x b g) (sym told) one, refl)
  told_more s f g (c ∷ bs) b (y ∷ done) x size told one =
      (told.0, told.1, told_more told.0 f g bs b done x (omega (arith, size)) told.2 one)
  told_more s f g bs b done x size told one = absurd (omega (arith, size))

picked_more : {X : Type 0} (bs : List Bool) (b : Bool) (done : List X) (x : X)
    → length bs ≡ length done → items_where_true (bs ++ b ∷ []) (done ++ x ∷ [])
    ≡ items_where_true bs done ++ items_where_true (b ∷ []) (x ∷ [])
picked_more [] b [] x size = refl
picked_more (test ∷ bs) b (y ∷ done) x size = grind (arith, common_steps, picked_more bs b done x)
picked_more bs b done x size = absurd (omega (arith, size))

module _ {X F : Type 0} (R : F → X → Bool → F → Type 0) (old : List X) (start : F) where
  -- the closure was called at the items before the place, and those that it did not keep are gone
  pub record IsRetaining (items : List X) (place : ℕ) (f : F) : Type 0 where
    pub done : List X
    pub rest : List X
    pub bs : List Bool
    pub whole : old ≡ done ++ rest
    pub left : items ≡ items_where_true bs done ++ rest
    pub size : length (items_where_true bs done) ≡ place
    pub answers : length bs ≡ length done
    pub told : ReturnsInTurn R start bs done f

  pub retaining_starts : IsRetaining old 0 start
  retaining_starts = record {
    done = [];
    rest = old;
    bs = [];
    whole = refl;
    left = refl;
    size = refl;
    answers = refl;
    told = refl;
  }

  item_is : (kept rest : List X) (x y : X) → x ≡ slice_index_or (kept ++ y ∷ rest) (length kept) x
      → y ≡ x
  item_is [] rest x y e = sym e
  item_is (z ∷ kept) rest x y e = item_is kept rest x y e

  next_of : (kept rest : List X) (x : X) → length kept < length (kept ++ rest)
      → x ≡ slice_index_or (kept ++ rest) (length kept) x → (others : List X) × (rest ≡ x ∷ others)
  next_of kept list x within e = grind (arith, common_steps, append-nil, item_is)

  -- one item more
  pub retaining_more : (items next : List X) (f g : F) (x : X) (b : Bool) (place : ℕ)
      → (was : IsRetaining items place f) → (others : List X) → was.rest ≡ x ∷ others → R f x b g
      → next ≡ items_where_true was.bs was.done ++ (items_where_true (b ∷ []) (x ∷ []) ++ others)
      → IsRetaining next (place + length (items_where_true (b ∷ []) (x ∷ []))) g
  retaining_more items next f g x b place was others more one is =
      grind (arith, picked_more, append_assoc, length-append, length_push, told_more)

  -- the next item stands
  pub kept_next : (items : List X) (f g : F) (x : X) (place : ℕ) → IsRetaining items place f
      → place < length items → x ≡ slice_index_or items place x → R f x true g
      → IsRetaining items (place + 1) g
  kept_next items f g x place was within at one =
      let kept = items_where_true was.bs was.done in
      let next =
      next_of kept was.rest x (omega (arith, within, was.size, ap length was.left))
      (rw (was.size, ← was.left) at) in
      retaining_more items items f g x true place was next.0 next.1 one
      (was.left ∙ ap (λ xs. kept ++ xs) next.1)

  -- the next item is gone
  pub removed_next : (items next : List X) (f g : F) (x : X) (place : ℕ) → IsRetaining items place f
      → place < length items → x ≡ slice_index_or items place x → R f x false g
      → next ≡ remove items place → IsRetaining next place g
  removed_next items next f g x place was within at one gone =
      let kept = items_where_true was.bs was.done in
      let after =
      next_of kept was.rest x (omega (arith, within, was.size, ap length was.left))
      (rw (was.size, ← was.left) at) in
      let left : items ≡ kept ++ x ∷ after.0 = was.left ∙ ap (λ xs. kept ++ xs) after.1 in
      let zero : place - place ≡ 0 = omega arith in
      let is : next ≡ kept ++ after.0 =
      gone ∙ ap (λ xs. remove xs place) left
      ∙ remove-append_right kept (x ∷ after.0) place place was.size (omega arith)
      ∙ ap (λ n. kept ++ remove (x ∷ after.0) n) zero in
      subst (λ n. IsRetaining next n g) (omega arith)
      (retaining_more items next f g x false place was after.0 after.1 one is)

  -- at the end the closure was called at each item
  pub retained : {items : List X} {place : ℕ} {f : F} → IsRetaining items place f
      → place ≡ length items
      → (bs : List Bool) × (q : F) × (length bs ≡ length old) × ReturnsInTurn R start bs old q
      × (items ≡ items_where_true bs old)
  retained {f = f} was end = grind (arith, common_steps, append-nil, length-append)
