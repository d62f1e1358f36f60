-- What holds of each item of a list, and of two lists place by place.
use Rattle.std.proofs.Common.{◌≡◌, ℕ, zero, suc, ◌+◌, ◌<◌, List, [], ◌∷◌, ◌++◌, length, get_or, take, arith}
use Rattle.std.specs.List.{AllByRecursion, AllZip}

pub every_at : {X : Type 0} (P : X → Type 0) (xs : List X) (i : ℕ) (d : X) → AllByRecursion P xs
    → i < length xs → P (get_or xs i d)
every_at P [] i d all h = absurd (omega arith)
every_at P (x ∷ xs) zero d all h = all.0
every_at P (x ∷ xs) (suc i) d all h = every_at P xs i d all.1 (omega arith)

zip_suc : {X Y : Type 0} (R : X → Y → Type 0) (xs : List X) (i : ℕ) (d : X) (ys : List Y) (y : Y)
    → AllZip R (take i xs) ys → i < length xs → R (get_or xs i d) y
    → AllZip R (take (suc i) xs) (ys ++ y ∷ [])
zip_suc R [] i d ys y all h is = absurd (omega arith)
zip_suc R (x ∷ xs) zero d [] y all h is = (is, tt)
zip_suc R (x ∷ xs) zero d (z ∷ ys) y all h is = absurd all
zip_suc R (x ∷ xs) (suc i) d [] y all h is = absurd all
zip_suc R (x ∷ xs) (suc i) d (z ∷ ys) y all h is =
    (all.0, zip_suc R xs i d ys y all.1 (omega arith) is)

-- with one item more of each
pub zip_next : {X Y : Type 0} (R : X → Y → Type 0) (xs : List X) (i : ℕ) (d : X) (ys : List Y)
    (y : Y) → AllZip R (take i xs) ys → i < length xs → R (get_or xs i d) y
    → AllZip R (take (i + 1) xs) (ys ++ y ∷ [])
zip_next R xs i d ys y all h is =
    let next : i + 1 ≡ suc i = omega arith in rw next (zip_suc R xs i d ys y all h is)
