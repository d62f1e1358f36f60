-- Steps from states to states by characters, and where texts lead.
use Rattle.std.specs.Prelude.{◌≡◌, ◌↔◌, ℕ, List, [], ◌∷◌, IsTrue}
use Rattle.std.specs.Ordering.{nat_cmp}
use Rattle.std.specs.BTreeSet.{BTreeSet, contains}

-- the states are those in which a text may start
abbrev pub AreStarts : (ℕ → Type 0) → BTreeSet ℕ → Type 0
AreStarts IsStart states = (p : ℕ) → IsTrue (contains nat_cmp states p) ↔ IsStart p

module _ (HasStep : ℕ → ℕ → ℕ → Type 0) where
  -- the states that some step leads to from one of the given by the character
  abbrev pub AreReached : BTreeSet ℕ → ℕ → BTreeSet ℕ → Type 0
  AreReached states c reached = (q : ℕ) → IsTrue (contains nat_cmp reached q)
      ↔ (p : ℕ) × IsTrue (contains nat_cmp states p) × HasStep p c q

  -- a path of steps leads along the characters from state p to state q
  abbrev pub LeadsTo : ℕ → List ℕ → ℕ → Type 0
  LeadsTo p [] q = p ≡ q
  LeadsTo p (c ∷ text) q = (s : ℕ) × HasStep p c s × LeadsTo s text q

  -- the states to which such paths lead along the characters from where a text may start
  abbrev pub AreAfter : (ℕ → Type 0) → List ℕ → BTreeSet ℕ → Type 0
  AreAfter IsStart text states = (q : ℕ) → IsTrue (contains nat_cmp states q)
      ↔ (p : ℕ) × IsStart p × LeadsTo p text q
