-- Records of two fields.
use Rattle.std.proofs.Common.{◌≡◌, ℕ, ◌≤◌, List, [], ◌∷◌, length, Option, None, Some, arith}
use Rattle.csv.specs.Records.{field_at}

-- fields of which a second one is not there, or a third one is, are not two
pub no_first : (fields : List (List ℕ)) → None ≡ field_at fields 0 → (a b : List ℕ)
    → ¬ (fields ≡ a ∷ b ∷ [])
unfolding field_at
no_first [] none a b is = cc
no_first (x ∷ rest) none a b is = cc

pub no_second : (fields : List (List ℕ)) → None ≡ field_at fields 1 → (a b : List ℕ)
    → ¬ (fields ≡ a ∷ b ∷ [])
unfolding field_at
no_second [] none a b is = cc
no_second (x ∷ []) none a b is = cc
no_second (x ∷ y ∷ rest) none a b is = cc

pub both : (fields : List (List ℕ)) (a b : List ℕ) → length fields ≤ 2 → Some a ≡ field_at fields 0
    → Some b ≡ field_at fields 1 → fields ≡ a ∷ b ∷ []
unfolding field_at
both [] a b short one other = cc
both (x ∷ []) a b short one other = cc
both (x ∷ y ∷ []) a b short one other = cc
both (x ∷ y ∷ z ∷ rest) a b short one other = absurd (omega arith)
