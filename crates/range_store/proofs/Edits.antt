-- Edits just after a front.
use Rattle.std.proofs.Common.{◌≡◌, ℕ, zero, suc, ◌+◌, ◌-◌, ◌<◌, ◌≤◌, List, [], ◌∷◌, ◌++◌, length, take, drop, ap, sym, ◌∙◌, add-one, arith, length-append, append_assoc}
use Rattle.std.specs.List.{remove}
use Rattle.std.proofs.lemmas.List.{append-nil, drop_all, take_at, drop_at, drop_more, length-take-le, drop-drop, take-append-drop, take-set, drop-set}
use Rattle.std.proofs.Math.ListN.{set}
use Rattle.std.proofs.lemmas.List.Edits.{remove-append_right}

pub set_parts : {X : Type 0} (xs : List X) (i : ℕ) (y : X) → i < length xs
    → set xs i y ≡ take i xs ++ y ∷ drop (i + 1) xs
set_parts xs i y within =
    sym (take-append-drop i (set xs i y))
    ∙ (ap (λ ys. ys ++ drop i (set xs i y)) (take-set xs i y)
    ∙ ap (λ ys. take i xs ++ ys) (drop-set xs i y within))

pub remove_behind : {T : Type 0} (front back : List T) (x : T) (place : ℕ) → length front ≡ place
    → remove (front ++ x ∷ back) place ≡ front ++ back
remove_behind front back x place e =
    grind (arith, remove-append_right front (x ∷ back) place place e (omega arith))

-- a run with one more item removed
pub removed_one : {T : Type 0} (before now new : List T) (place i r : ℕ) (d : T)
    → now ≡ take place before ++ drop (place + i) before → new ≡ remove now r → r ≡ place
    → place + i < length before → new ≡ take place before ++ drop (place + (i + 1)) before
removed_one before now new place i r d was done same within =
    grind (arith, length-take-le, drop_more before (place + i) d within, remove_behind)

pub remove_parts : {T : Type 0} (xs : List T) (i : ℕ) → remove xs i ≡ take i xs ++ drop (i + 1) xs
remove_parts xs i = ap (λ m. take i xs ++ drop m xs) (sym (add-one i))

-- an item is put in the place of another
pub put_over : {T : Type 0} (before new : List T) (place r left : ℕ) (x : T) → new ≡ set before r x
    → r ≡ place → place < length before → 0 < left
    → new ≡ take place before ++ x ∷ drop (place + (left - (left - 1))) before
put_over before new place r left x done same within some = grind (arith, set_parts)

-- a run gives way to one item, then the rest of it is removed
pub replaced_run : {T : Type 0} (before now new : List T) (place left less : ℕ) (x : T)
    → now ≡ take place before ++ x ∷ drop (place + (left - less)) before → less ≡ left - 1
    → place + left ≤ length before → new ≡ take (place + 1) now ++ drop (place + 1 + less) now
    → new ≡ take place before ++ x ∷ drop (place + left) before
replaced_run before now new place left less x was fewer within done =
    let front : length (take place before) ≡ place = length-take-le place before (omega arith) in
    let one : length (take place before ++ x ∷ []) ≡ place + 1 =
    length-append (take place before) (x ∷ []) ∙ ap (λ n. n + 1) front in
    let whole : now ≡ (take place before ++ x ∷ []) ++ drop (place + (left - less)) before =
    grind (arith, append_assoc)
    in
    grind (arith, take_at, drop_at, drop-drop less (place + 1) now, drop-drop, append_assoc)

module _ {X : Type 0} where
  pub without_last : (xs : List X) (n : ℕ) → length xs ≤ n + 1 → remove xs n ≡ take n xs
  without_last xs n few = grind (arith, drop_all, append-nil)

  -- the front of two lists, and the rest of them
  pub take-append-add : (xs ys : List X) (n k : ℕ) → n ≡ length xs + k
      → take n (xs ++ ys) ≡ xs ++ take k ys
  take-append-add [] ys n k e = let same : n ≡ k = omega (arith, e) in ap (λ m. take m ys) same
  take-append-add (x ∷ xs) ys zero k e = absurd (omega arith)
  take-append-add (x ∷ xs) ys (suc n) k e =
      ap (λ zs. x ∷ zs) (take-append-add xs ys n k (omega arith))

  pub drop-append-add : (xs ys : List X) (n k : ℕ) → n ≡ length xs + k
      → drop n (xs ++ ys) ≡ drop k ys
  drop-append-add [] ys n k e = let same : n ≡ k = omega (arith, e) in ap (λ m. drop m ys) same
  drop-append-add (x ∷ xs) ys zero k e = absurd (omega arith)
  drop-append-add (x ∷ xs) ys (suc n) k e = drop-append-add xs ys n k (omega arith)
