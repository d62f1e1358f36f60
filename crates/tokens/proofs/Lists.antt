-- What stands at an index of a list, and of two lists side by side.
use Rattle.std.proofs.Common.{◌≡◌, ◌⊎◌, refl, ◌∙◌, ℕ, zero, suc, ◌+◌, ◌<◌, List, [], ◌∷◌, ◌++◌, length, drop, take, map, Some, append_assoc, arith}
use Rattle.std.proofs.lemmas.Grind.{common_steps}
use Rattle.std.proofs.lemmas.List.{drop_more, take_more}
use Rattle.std.proofs.lemmas.Option.{slice_get-map}
use Rattle.std.proofs.lemmas.Option.{slice_get_cases}
use Rattle.std.specs.List.{slice_get, AllZip, Contains}
use Rattle.std.proofs.lemmas.Option.{slice_get_within}

pub item_drop : {X : Type 0} (xs : List X) (i : ℕ) (x : X) → slice_get xs i ≡ Some x
    → drop i xs ≡ x ∷ drop (i + 1) xs
item_drop xs i x at = grind (arith, drop_more xs i x, slice_get_cases xs i)

pub map_at : {X Y : Type 0} (f : X → Y) (xs : List X) (i : ℕ) (x : X) → slice_get xs i ≡ Some x
    → slice_get (map f xs) i ≡ Some (f x)
map_at f xs i x at = rw (slice_get-map f xs i, at) refl

module _ {X Y : Type 0} (R : X → Y → Type 0) where
  pub zip_more : (xs : List X) (ys : List Y) (x : X) (y : Y) → AllZip R xs ys → R x y
      → AllZip R (xs ++ x ∷ []) (ys ++ y ∷ [])
  zip_more [] [] x y all one = (one, tt)
  zip_more [] (z ∷ ys) x y all one = absurd all
  zip_more (w ∷ xs) [] x y all one = absurd all
  zip_more (w ∷ xs) (z ∷ ys) x y all one = (all.0, zip_more xs ys x y all.1 one)

pub some_at : {X : Type 0} (xs : List X) (i : ℕ) → i < length xs
    → (x : X) × (slice_get xs i ≡ Some x)
some_at xs i h = grind (arith, slice_get_cases xs i)

-- what stands at an index of a list with an item more
pub push_at : {X : Type 0} (xs : List X) (x : X) (i : ℕ) (y : X)
    → slice_get (xs ++ x ∷ []) i ≡ Some y
    → ((slice_get xs i ≡ Some y) × (i < length xs)) ⊎ ((i ≡ length xs) × (x ≡ y))
push_at xs x i y at =
    grind (arith, common_steps, slice_get_cases xs i, slice_get_cases (xs ++ x ∷ []) i)

pub append_four : (a b c d : List ℕ) → a ++ b ++ c ++ d ≡ a ++ (b ++ (c ++ d))
append_four a b c d = append_assoc (a ++ b) c d ∙ append_assoc a b (c ++ d)

-- an item more
pub take_item : {X : Type 0} (xs : List X) (at : ℕ) (x : X) → slice_get xs at ≡ Some x
    → take (at + 1) xs ≡ take at xs ++ x ∷ []
take_item xs at x there = grind (arith, take_more xs at x, slice_get_cases xs at)

pub contains_at : {X : Type 0} (xs : List X) (i : ℕ) (x : X) → slice_get xs i ≡ Some x
    → Contains xs x
contains_at xs i x at = (i, slice_get_within xs i x at, grind (arith, slice_get_cases xs i))

module _ {X Y : Type 0} (R S : X → Y → Type 0) where
  -- two lists side by side, of which something else holds
  pub zip_as : (xs : List X) (ys : List Y) → ((x : X) (y : Y) → R x y → S x y) → AllZip R xs ys
      → AllZip S xs ys
  zip_as [] [] follows all = tt
  zip_as [] (y ∷ ys) follows all = absurd all
  zip_as (x ∷ xs) [] follows all = absurd all
  zip_as (x ∷ xs) (y ∷ ys) follows all = (follows x y all.0, zip_as xs ys follows all.1)

-- what stands beside an item
pub zip_beside : {X Y : Type 0} (R : X → Y → Type 0) (xs : List X) (ys : List Y) (i : ℕ) (x : X)
    → AllZip R xs ys → slice_get xs i ≡ Some x → (y : Y) × (slice_get ys i ≡ Some y) × R x y
zip_beside R [] ys i x all at = absurd cc
zip_beside R (w ∷ xs) [] i x all at = absurd all
zip_beside R (w ∷ xs) (y ∷ ys) zero x all at =
    let same : w ≡ x = cc in
    (y, refl, rw (← same) all.0)
zip_beside R (w ∷ xs) (y ∷ ys) (suc i) x all at = zip_beside R xs ys i x all.1 at
