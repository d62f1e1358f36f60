-- How many numbers below a bound pass.
use Rattle.std.proofs.Common.{◌≡◌, ℕ, zero, suc, ◌+◌, ◌≤◌, ◌<◌, ◌^◌, Bool, true, false, ◌||◌, if◌then◌else◌, refl, ap, arith}
use Rattle.least_covers.specs.Covers.{how_many}

abbrev one_if : Bool → ℕ
one_if b = if b then 1 else 0

pub counts_ext : (n : ℕ) (f g : ℕ → Bool) → ((k : ℕ) → k < n → f k ≡ g k)
    → how_many n f ≡ how_many n g
unfolding how_many
counts_ext zero f g h = refl
counts_ext (suc n) f g h =
    let again = counts_ext n f g (λ k less. h k (omega arith)) in
    let last : one_if (f n) ≡ one_if (g n) = ap one_if (h n (omega arith)) in omega arith

one_le : (a b : Bool) → (a ≡ true → b ≡ true) → one_if a ≤ one_if b
one_le false b h = omega arith
one_le true b h = let e = h refl in rw e (omega arith)

pub counts_le : (n : ℕ) (f g : ℕ → Bool) → ((k : ℕ) → k < n → f k ≡ true → g k ≡ true)
    → how_many n f ≤ how_many n g
unfolding how_many
counts_le zero f g h = omega arith
counts_le (suc n) f g h =
    let again = counts_le n f g (λ k less. h k (omega arith)) in
    let last = one_le (f n) (g n) (h n (omega arith)) in omega arith

pub counts_all : (n : ℕ) (f : ℕ → Bool) → ((k : ℕ) → k < n → f k ≡ true) → how_many n f ≡ n
unfolding how_many
counts_all zero f h = refl
counts_all (suc n) f h =
    let again = counts_all n f (λ k less. h k (omega arith)) in
    let last : one_if (f n) ≡ 1 = ap one_if (h n (omega arith)) in omega arith

pub counts_none : (n : ℕ) (f : ℕ → Bool) → ((k : ℕ) → k < n → f k ≡ false) → how_many n f ≡ 0
unfolding how_many
counts_none zero f h = refl
counts_none (suc n) f h =
    let again = counts_none n f (λ k less. h k (omega arith)) in
    let last : one_if (f n) ≡ 0 = ap one_if (h n (omega arith)) in omega arith

one_or : (a b : Bool) → one_if (a || b) ≤ one_if a + one_if b
one_or true b = omega arith
one_or false b = omega arith

pub counts_or : (n : ℕ) (f g : ℕ → Bool)
    → how_many n (λ k. f k || g k) ≤ how_many n f + how_many n g
unfolding how_many
counts_or zero f g = omega arith
counts_or (suc n) f g =
    let again = counts_or n f g in let last = one_or (f n) (g n) in omega arith

pub counts_add : (m n : ℕ) (f : ℕ → Bool)
    → how_many (m + n) f ≡ how_many m f + how_many n (λ k. f (m + k))
unfolding how_many
counts_add m zero f = let z : m + 0 ≡ m = omega arith in rw z (omega arith)
counts_add m (suc n) f =
    let z : m + suc n ≡ suc (m + n) = omega arith in
    let again = counts_add m n f in rw z (omega arith)

pub counts_halves : (width : ℕ) (f : ℕ → Bool) → how_many (2 ^ suc width) f
    ≡ how_many (2 ^ width) f + how_many (2 ^ width) (λ k. f (2 ^ width + k))
counts_halves width f =
    let z : 2 ^ suc width ≡ 2 ^ width + 2 ^ width = omega arith in
    rw z (counts_add (2 ^ width) (2 ^ width) f)
