-- How the nodes of a slab change, step by step.
use Rattle.std.proofs.Common.{◌≡◌, ◌≢◌, ℕ, ◌+◌, ◌≤◌, List, [], ◌∷◌, ◌++◌, length, refl, sym, arith}
use Rattle.std.proofs.lemmas.List.{length-append}
use Rattle.range_nodes.specs.Heap.{Heap, Writes, Stores, Removes}
use Rattle.range_tree.specs.Nodes.{here, Moves}
use Rattle.range_nodes.specs.Occurrences.{occurrences}
use Rattle.range_nodes.proofs.Occurrences.{occurrences-append, occurrences-cons, occurrences_itself, occurrences_other}
use Rattle.range_tree.specs.Frame.{AgreeAt}

pub here_le : {T : Type 0} (s : Heap T) (k : ℕ) → here s k ≤ 1
here_le s k = grind arith

pub occurrences_self : (n k : ℕ) → n ≡ k → occurrences k (n ∷ []) ≡ 1
occurrences_self n k same = rw (← same) (occurrences_itself n)

-- a number that does not stand before a list is another
pub other_than : (n k : ℕ) (us : List ℕ) → occurrences k (n ∷ us) ≡ 0 → k ≢ n
other_than n k us none same =
    omega (arith, occurrences-cons k n us, occurrences_self n k (sym same))

pub Moves-none : {T : Type 0} (s : Heap T) (us : List ℕ) → Moves s s us us
Moves-none s us =
    record { owned = λ k. refl; outside = λ k unused present. refl; len = refl; capacity = refl }

pub Moves-then : {T : Type 0} {r s t : Heap T} {us vs ws : List ℕ} → Moves r s us vs
    → Moves s t vs ws → Moves r t us ws
Moves-then first second = grind arith

pub Moves-beside : {T : Type 0} {s t : Heap T} {us vs : List ℕ} (ws : List ℕ) → Moves s t us vs
    → Moves s t (us ++ ws) (vs ++ ws)
Moves-beside ws m = grind (arith, occurrences-append, length-append)

-- the same items_below, in another order
pub record SameNodes (us vs : List ℕ) : Type 0 where
  pub occur : (k : ℕ) → occurrences k us ≡ occurrences k vs
  pub len : length us ≡ length vs

pub Moves-like : {T : Type 0} {s t : Heap T} {us : List ℕ} (us' : List ℕ) {vs : List ℕ}
    (vs' : List ℕ) → SameNodes us us' → SameNodes vs vs' → Moves s t us vs → Moves s t us' vs'
Moves-like us' vs' before after m = grind arith

pub Writes-moves : {T : Type 0} {s t : Heap T} {n : ℕ} {xs : List T} {ks : List ℕ} (us : List ℕ)
    → Writes s t n xs ks → Moves s t (n ∷ us) (n ∷ us)
Writes-moves us w = grind (arith, other_than)

pub Stores-moves : {T : Type 0} {s t : Heap T} {n : ℕ} {xs : List T} {ks : List ℕ} (us : List ℕ)
    → Stores s t n xs ks → Moves s t us (n ∷ us)
Stores-moves us w = grind (arith, occurrences-cons, occurrences_itself, occurrences_other)

pub Removes-moves : {T : Type 0} {s t : Heap T} {n : ℕ} (us : List ℕ) → Removes s t n
    → Moves s t (n ∷ us) us
Removes-moves us w = grind (arith, occurrences-cons, occurrences_itself, occurrences_other)

-- the nodes that are none of these stay
pub Moves-agree : {T : Type 0} {s t : Heap T} {us vs : List ℕ} (ws : List ℕ)
    → ((k : ℕ) → occurrences k us + occurrences k ws ≤ here s k) → Moves s t us vs → AgreeAt s t ws
Moves-agree ws once m k among = grind arith
