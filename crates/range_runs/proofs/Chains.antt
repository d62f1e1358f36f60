-- Chains in parts, and chains that are joined.
use Rattle.range_runs.proofs.Common.{arith, common_steps, ◌≡◌, ◌∙◌, ◌⊎◌, true, List, [], ◌∷◌, ◌++◌, Every, Equal, Le, Lt, Line, Leads, Follows, IsChain}
use Rattle.range_algebra.specs.Orders

module _ {L V X : Type 0} (line : Line L V X) where
  pub le_refl : (p : L) → Le line.cmp p p
  le_refl = Orders.le_refl line.cmp line.total

  pub lt_le : (p q : L) → Lt line.cmp p q → Le line.cmp p q
  lt_le = Orders.lt_le line.cmp line.total

  pub eq_le : (p q : L) → line.cmp p q ≡ Equal → Le line.cmp p q
  eq_le = Orders.eq_le line.cmp line.total

  pub eq_ge : (p q : L) → line.cmp p q ≡ Equal → Le line.cmp q p
  eq_ge = Orders.eq_ge line.cmp line.total

  pub le_trans : (p q r : L) → Le line.cmp p q → Le line.cmp q r → Le line.cmp p r
  le_trans = Orders.le_trans line.cmp line.total

  pub lt_le_trans : (p q r : L) → Lt line.cmp p q → Le line.cmp q r → Lt line.cmp p r
  lt_le_trans = Orders.lt_le_trans line.cmp line.total

  pub le_lt_trans : (p q r : L) → Le line.cmp p q → Lt line.cmp q r → Lt line.cmp p r
  le_lt_trans = Orders.le_lt_trans line.cmp line.total

  pub lt_not_le : (p q : L) → Lt line.cmp p q → Le line.cmp q p → ⊥
  lt_not_le = Orders.lt_not_le line.cmp line.total

  pub cases : (p q : L) → Lt line.cmp p q ⊎ Le line.cmp q p
  cases = Orders.cases line.cmp line.total

  -- a place lies between two others, or below the first, or from the second on
  pub inside_or_out : (p c d : L) → (Le line.cmp c p × Lt line.cmp p d)
      ⊎ (Lt line.cmp p c ⊎ Le line.cmp d p)
  inside_or_out p c d = grind (arith, common_steps, cases)

  pub same_is_symmetric : (a b : V) → line.same a b ≡ true → line.same b a ≡ true
  same_is_symmetric a b h = line.equal.symm b a ∙ h

  pub chain_left : (xs ys : List X) → IsChain line (xs ++ ys) → IsChain line xs
  chain_left [] ys h = tt
  chain_left (x ∷ []) ys h = (h.0, tt)
  chain_left (x ∷ x' ∷ xs) ys h = (h.0, (h.1.0, chain_left (x' ∷ xs) ys h.1.1))

  pub chain_tail : (x : X) (xs : List X) → Follows line x xs → IsChain line xs
  chain_tail x list h = grind (arith, common_steps)

  pub chain_right : (xs ys : List X) → IsChain line (xs ++ ys) → IsChain line ys
  chain_right [] ys h = h
  chain_right (x ∷ xs) ys h = chain_right xs ys (chain_tail x (xs ++ ys) h.1)

  follows_from : (low : L) (x : X) (xs : List X) → Le line.cmp low (line.hi x) → Follows line x xs
      → Every (λ y. Le line.cmp low (line.lo y)) xs
  follows_from low x [] h f = tt
  follows_from low x (y ∷ ys) h f =
      let first = le_trans _ _ _ h f.0.0 in (
        first,
        follows_from low y ys (le_trans _ _ _ first (lt_le _ _ f.1.0)) f.1.1,
      )

  -- what follows an item starts at its end at least
  pub follows_above : (x : X) (xs : List X) → Follows line x xs
      → Every (λ y. Le line.cmp (line.hi x) (line.lo y)) xs
  follows_above x xs f = follows_from (line.hi x) x xs (le_refl (line.hi x)) f

  pub chain_above : (low : L) (x : X) (xs : List X) → IsChain line (x ∷ xs)
      → Le line.cmp low (line.lo x) → Every (λ y. Le line.cmp low (line.lo y)) (x ∷ xs)
  chain_above low x xs h le = (
    le,
    follows_from low x xs (le_trans _ _ _ le (lt_le _ _ h.0)) h.1,
  )

  pub strictly_leads : (x : X) (p : L) (v : V) → Lt line.cmp (line.hi x) p → Leads line x p v
  strictly_leads x p v h = grind (arith, common_steps)

  -- all that stand before an item lead to it
  pub chain_before : (xs : List X) (y : X) (ys : List X) → IsChain line (xs ++ y ∷ ys)
      → Every (λ x. Leads line x (line.lo y) (line.value y)) xs
  chain_before [] y ys h = tt
  chain_before (x ∷ []) y ys h = (h.1.0, tt)
  chain_before (x ∷ x' ∷ xs) y ys h = grind (arith, common_steps, common_steps, le_lt_trans, lt_le_trans, strictly_leads, chain_before (x' ∷ xs) y ys h.1.1)

  pub chains_join : (xs : List X) (y : X) (ys : List X) → IsChain line xs → IsChain line (y ∷ ys)
      → Every (λ x. Leads line x (line.lo y) (line.value y)) xs → IsChain line (xs ++ y ∷ ys)
  chains_join [] y ys h k e = k
  chains_join (x ∷ []) y ys h k e = (h.0, (e.0, k))
  chains_join (x ∷ x' ∷ xs) y ys h k e = (h.0, (h.1.0, chains_join (x' ∷ xs) y ys h.1.1 k e.1))

  -- an item that follows at the same end with an equal value
  pub follows_like : (x y : X) (ys : List X) → line.cmp (line.hi y) (line.hi x) ≡ Equal
      → line.same (line.value y) (line.value x) ≡ true → Follows line x ys → Follows line y ys
  follows_like x y [] e s f = tt
  follows_like x y (z ∷ zs) e s f = grind (arith, common_steps)
