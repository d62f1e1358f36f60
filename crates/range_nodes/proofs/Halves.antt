-- The parts of a list with one element more.
use Rattle.std.proofs.Common.{◌≡◌, ℕ, suc, ◌-◌, ◌≤◌, List, ◌∷◌, length, take, drop, arith, ◌+◌, ◌++◌, sym, ap, ◌∙◌}
use Rattle.std.specs.List.{insert}
use Rattle.std.proofs.lemmas.List.{drop-append-le, drop-drop, length-take-le, take-append-le, take-take}
use Rattle.std.proofs.lemmas.Slice.{between_is}
use Rattle.range_store.proofs.Edits.{take-append-add, drop-append-add}

module _ {X : Type 0} (xs : List X) (i k : ℕ) (x : X) where
  pub take_insert_before : k ≤ i → i ≤ length xs → take k (insert xs i x) ≡ take k xs
  take_insert_before low within = grind (arith, take-append-le, length-take-le, take-take)

  pub take_insert_after : i ≤ k → i ≤ length xs
      → take (suc k) (insert xs i x) ≡ insert (take k xs) i x
  take_insert_after low within =
      take-append-add (take i xs) (x ∷ drop i xs) (suc k) (suc (k - i))
      (omega (arith, length-take-le i xs within))
      ∙ ap (λ ys. take i xs ++ x ∷ ys) (between_is xs i k)
      ∙ ap (λ ys. ys ++ x ∷ drop i (take k xs)) (sym (take-take i k xs low))

  pub drop_insert_after : i ≤ k → i ≤ length xs → drop (suc k) (insert xs i x) ≡ drop k xs
  drop_insert_after low within =
      let on : i + (k - i) ≡ k = omega arith in
      drop-append-add (take i xs) (x ∷ drop i xs) (suc k) (suc (k - i))
      (omega (arith, length-take-le i xs within))
      ∙ drop-drop (k - i) i xs ∙ ap (λ n. drop n xs) on

  pub drop_insert_before : k ≤ i → i ≤ length xs
      → drop k (insert xs i x) ≡ insert (drop k xs) (i - k) x
  drop_insert_before low within =
      grind (arith, drop-append-le, length-take-le, between_is, drop-drop)
