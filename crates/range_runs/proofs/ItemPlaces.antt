-- An item at a place of a list, and what stands on each side of it.
use Rattle.range_runs.proofs.Common.{common_steps, ◌≡◌, ℕ, zero, suc, ◌+◌, ◌<◌, List, [], ◌∷◌, ◌++◌, length, take, drop, get_or, refl, arith}

pub element_at : {X : Type 0} (xs : List X) (n : ℕ) → n < length xs → X
element_at [] n within = absurd (omega arith)
element_at (x ∷ xs) zero within = x
element_at (x ∷ xs) (suc n) within = element_at xs n (omega arith)

pub element_at_is_read : {X : Type 0} (xs : List X) (n : ℕ) (within : n < length xs) (d : X)
    → element_at xs n within ≡ get_or xs n d
unfolding element_at
element_at_is_read [] n within d = absurd (omega arith)
element_at_is_read (x ∷ xs) zero within d = refl
element_at_is_read (x ∷ xs) (suc n) within d = element_at_is_read xs n (omega arith) d

-- the items up to one, that one, and those after it
pub listed_at : {X : Type 0} (items : List X) (n : ℕ) (x : X) → n < length items
    → x ≡ get_or items n x → items ≡ take n items ++ x ∷ drop (n + 1) items
listed_at items n x within read = grind (arith, common_steps)

-- those up to it, and those from it on
pub upto_item : {X : Type 0} (items : List X) (n end : ℕ) (x : X) → n + 1 ≡ end
    → n < length items → x ≡ get_or items n x → take end items ≡ take n items ++ x ∷ []
upto_item items n end x at within read = grind (arith, common_steps)

pub from_item : {X : Type 0} (items : List X) (n : ℕ) (x : X) → n < length items
    → x ≡ get_or items n x → drop n items ≡ x ∷ drop (n + 1) items
from_item items n x within read = grind (arith, common_steps)
