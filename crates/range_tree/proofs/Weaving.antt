-- Lists with items between them, cut and put together.
use Rattle.std.proofs.Common.{◌≡◌, ◌⊎◌, ℕ, suc, ◌+◌, ◌-◌, ◌<◌, ◌≤◌, List, [], ◌∷◌, ◌++◌, length, get_or, take, drop, refl, sym, ap, ◌∙◌, inl, inr, add-one, arith}
use Rattle.std.specs.List.{insert, sum_by}
use Rattle.std.proofs.lemmas.List.{append_assoc, length-take-le, take-append-drop, drop_more, take_more}
use Rattle.std.proofs.lemmas.List.Edits.{insert-append_left, insert-append_right}
use Rattle.std.proofs.lemmas.List.Sums.{sum_by-cons, sum_by-append}
use Rattle.range_tree.specs.Nodes.{rest_of, weave, front_of, before}
use Rattle.range_tree.specs.Weave.{length-before, list_splits_at, rest_of-append, weave_cut, weave_split}

module _ {X : Type 0} where
  -- some lists in the place of one
  pub weave_splice : (xs seps ys : List X) (ks : List (List X)) (t : List X) (ts ls : List (List X))
      → length xs ≡ length ks → length seps ≡ length ts
      → weave (xs ++ (seps ++ ys)) (ks ++ ((t ∷ ts) ++ ls)) ≡ front_of xs ks
      ++ (weave seps (t ∷ ts) ++ rest_of ys ls)
  weave_splice xs seps ys ks t ts ls same same' =
      weave_split xs (seps ++ ys) ks t (ts ++ ls) same
      ∙ ap (λ zs. front_of xs ks ++ (t ++ zs)) (rest_of-append seps ys ts ls same')
      ∙ ap (λ zs. front_of xs ks ++ zs) (sym (append_assoc t (rest_of seps ts) (rest_of ys ls)))

  -- an item into the middle of three parts
  pub insert_middle : (f k r : List X) (rest : ℕ) (y : X) → rest ≤ length k
      → insert (f ++ (k ++ r)) (length f + rest) y ≡ f ++ (insert k rest y ++ r)
  insert_middle f k r rest y within =
      let offset : length f + rest - length f ≡ rest = omega arith in
      insert-append_right f (k ++ r) (length f) (length f + rest) y refl (omega arith)
      ∙ ap (λ n. f ++ insert (k ++ r) n y) offset
      ∙ ap (λ zs. f ++ zs) (insert-append_left k r rest y within)

  parts_at : (ks : List X) (h : ℕ) (d : X) → h < length ks
      → ks ≡ take h ks ++ (get_or ks h d ∷ drop (suc h) ks)
  parts_at ks h d within = rw add-one at (list_splits_at ks h d within)

  list_parts_at : (ks : List (List X)) (h : ℕ) (d : List X) → h < length ks
      → ks ≡ take h ks ++ (get_or ks h d ∷ drop (suc h) ks)
  list_parts_at ks h d within =
      rw add-one at
      (sym (ap (λ zs. take h ks ++ zs) (sym (drop_more ks h d within)) ∙ take-append-drop h ks))

  -- a woven list cut in two round the item at h
  pub weave_halves : (xs : List X) (ks : List (List X)) (h : ℕ) (d : X) → h < length xs
      → (length ks ≡ 0) ⊎ (length ks ≡ length xs + 1)
      → weave xs ks ≡ weave (take h xs) (take (suc h) ks)
      ++ (get_or xs h d ∷ weave (drop (suc h) xs) (drop (suc h) ks))
  weave_halves xs [] h d within fits = parts_at xs h d within
  weave_halves xs (k ∷ ks) h d within (inl none) = absurd (omega (arith, none))
  weave_halves xs (k ∷ ks) h d within (inr many) =
      let lt : h < length ks = omega (arith, many) in
      let cut =
      weave_cut (take h xs) (get_or xs h d) (drop (suc h) xs) k (take h ks) (get_or ks h [])
      (drop (suc h) ks) (length-take-le h xs (omega arith)
      ∙ sym (length-take-le h ks (omega arith))) in
      let tail : drop h ks ≡ get_or ks h [] ∷ drop (suc h) ks =
      rw add-one at (drop_more ks h [] lt) in
      ap (λ zs. weave zs (k ∷ ks)) (parts_at xs h d within)
      ∙ ap (λ zs. weave (take h xs ++ (get_or xs h d ∷ drop (suc h) xs)) (k ∷ zs))
      (list_parts_at ks h [] lt)
      ∙ cut
      ∙ ap (λ zs. weave (take h xs) (k ∷ take h ks)
      ++ (get_or xs h d ∷ weave (drop (suc h) xs) zs)) (sym tail)

  -- with the list at i, and the item after it
  pub length-before_next : (xs : List X) (ks : List (List X)) (i : ℕ) → i < length xs
      → i < length ks
      → length (before xs ks (i + 1)) ≡ length (before xs ks i) + length (get_or ks i []) + 1
  length-before_next xs ks i low within =
      omega (
        arith,
        length-before xs ks i (omega arith) (omega arith),
        length-before xs ks (i + 1) (omega arith) (omega arith),
        ap (sum_by length) (take_more ks i [] within),
        sum_by-append (length {A = X}) (take i ks) (get_or ks i [] ∷ []),
        sum_by-cons (length {A = X}) (get_or ks i []) [],
      )
