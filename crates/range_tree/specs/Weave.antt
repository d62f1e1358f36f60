-- Lists with items between them.
use Rattle.std.proofs.Common.{◌≡◌, ◌⊎◌, ℕ, ◌+◌, ◌<◌, ◌≤◌, List, [], ◌∷◌, ◌++◌, length, get_or, take, drop, refl, sym, ap, ◌∙◌, inl, inr, add-zero, arith}
use Rattle.std.specs.List.{sum_by}
use Rattle.std.proofs.lemmas.List.{append_assoc, length-append, length-take-le, take-append-drop, drop_more}
use Rattle.std.proofs.lemmas.List.Sums.{sum_by-cons}
use Rattle.range_tree.specs.Nodes.{rest_of, weave, front_of, before, after}

module _ {X : Type 0} where
  pub weave-cons : (x : X) (xs : List X) (j k : List X) (ks : List (List X))
      → weave (x ∷ xs) (j ∷ k ∷ ks) ≡ (j ++ x ∷ []) ++ weave xs (k ∷ ks)
  weave-cons x xs j k ks = sym (append_assoc j (x ∷ []) (k ++ rest_of xs ks))

  -- what stands before the list k, that list, and what stands after it
  pub weave_split : (xs ys : List X) (ks : List (List X)) (k : List X) (ls : List (List X))
      → length xs ≡ length ks
      → weave (xs ++ ys) (ks ++ k ∷ ls) ≡ front_of xs ks ++ (k ++ rest_of ys ls)
  weave_split [] ys [] k ls same = refl
  weave_split [] ys (j ∷ ks) k ls same = absurd (omega arith)
  weave_split (x ∷ xs) ys [] k ls same = absurd (omega arith)
  weave_split (x ∷ xs) ys (j ∷ []) k ls same =
      let later = weave_split xs ys [] k ls (omega arith) in
      weave-cons x (xs ++ ys) j k ls ∙ ap (λ zs. (j ++ x ∷ []) ++ zs) later
      ∙ sym (append_assoc (j ++ x ∷ []) (front_of xs []) (k ++ rest_of ys ls))
  weave_split (x ∷ xs) ys (j ∷ i ∷ ks) k ls same =
      let later = weave_split xs ys (i ∷ ks) k ls (omega arith) in
      weave-cons x (xs ++ ys) j i (ks ++ k ∷ ls) ∙ ap (λ zs. (j ++ x ∷ []) ++ zs) later
      ∙ sym (append_assoc (j ++ x ∷ []) (front_of xs (i ∷ ks)) (k ++ rest_of ys ls))

  pub rest_of-append : (xs ys : List X) (ks ls : List (List X)) → length xs ≡ length ks
      → rest_of (xs ++ ys) (ks ++ ls) ≡ rest_of xs ks ++ rest_of ys ls
  rest_of-append [] ys [] ls same = refl
  rest_of-append [] ys (k ∷ ks) ls same = absurd (omega arith)
  rest_of-append (x ∷ xs) ys [] ls same = absurd (omega arith)
  rest_of-append (x ∷ xs) ys (k ∷ ks) ls same =
      ap (λ zs. x ∷ zs) (ap (λ zs. k ++ zs) (rest_of-append xs ys ks ls (omega arith))
      ∙ sym (append_assoc k (rest_of xs ks) (rest_of ys ls)))

  -- a node cut in two round the item y
  pub weave_cut : (xs : List X) (y : X) (ys : List X) (k : List X) (ks : List (List X)) (l : List X)
      (ls : List (List X)) → length xs ≡ length ks
      → weave (xs ++ y ∷ ys) ((k ∷ ks) ++ (l ∷ ls)) ≡ weave xs (k ∷ ks) ++ (y ∷ weave ys (l ∷ ls))
  weave_cut xs y ys k ks l ls same =
      ap (λ zs. k ++ zs) (rest_of-append xs (y ∷ ys) ks (l ∷ ls) same)
      ∙ sym (append_assoc k (rest_of xs ks) (y ∷ weave ys (l ∷ ls)))

  pub weave_at : (xs : List X) (ks : List (List X)) (i : ℕ) → i ≤ length xs
      → length ks ≡ length xs + 1
      → weave xs ks ≡ before xs ks i ++ (get_or ks i [] ++ after xs ks i)
  weave_at xs ks i within same =
      let cut : take i ks ++ (get_or ks i [] ∷ drop (i + 1) ks) ≡ ks =
      ap (λ zs. take i ks ++ zs) (sym (drop_more ks i [] (omega arith)))
      ∙ take-append-drop i ks in
      let lengths : length (take i xs) ≡ length (take i ks) =
      length-take-le i xs within ∙ sym (length-take-le i ks (omega arith)) in
      let split =
      weave_split (take i xs) (drop i xs) (take i ks) (get_or ks i [])
      (drop (i + 1) ks) lengths in
      sym (ap (λ zs. weave zs (take i ks ++ get_or ks i [] ∷ drop (i + 1) ks))
      (take-append-drop i xs) ∙ ap (weave xs) cut) ∙ split

module _ {X : Type 0} where
  -- the parts round the element at i
  pub list_splits_at : (ks : List X) (i : ℕ) (d : X) → i < length ks
      → ks ≡ take i ks ++ (get_or ks i d ∷ drop (i + 1) ks)
  list_splits_at ks i d within =
      sym (ap (λ zs. take i ks ++ zs) (sym (drop_more ks i d within)) ∙ take-append-drop i ks)

  length-rest_of : (xs : List X) (ks : List (List X)) → length ks ≡ length xs
      → length (rest_of xs ks) ≡ length xs + sum_by length ks
  length-rest_of [] [] same = refl
  length-rest_of [] (k ∷ ks) same = absurd (omega arith)
  length-rest_of (x ∷ xs) [] same = absurd (omega arith)
  length-rest_of (x ∷ xs) (k ∷ ks) same =
      omega (
        arith,
        length-append k (rest_of xs ks),
        length-rest_of xs ks (omega arith),
        sum_by-cons (length {A = X}) k ks,
      )

  pub length-weave : (xs : List X) (ks : List (List X))
      → (length ks ≡ 0) ⊎ (length ks ≡ length xs + 1)
      → length (weave xs ks) ≡ length xs + sum_by length ks
  length-weave xs [] fits = sym (add-zero (length xs))
  length-weave xs (k ∷ ks) (inl none) = absurd (omega (arith, none))
  length-weave xs (k ∷ ks) (inr many) =
      omega (
        arith,
        length-append k (rest_of xs ks),
        length-rest_of xs ks (omega (arith, many)),
        sum_by-cons (length {A = X}) k ks,
      )

  length-front_of : (xs : List X) (ks : List (List X)) → length xs ≡ length ks
      → length (front_of xs ks) ≡ length xs + sum_by length ks
  length-front_of [] [] same = refl
  length-front_of [] (k ∷ ks) same = absurd (omega arith)
  length-front_of (x ∷ xs) [] same = absurd (omega arith)
  length-front_of (x ∷ xs) (k ∷ ks) same =
      omega (
        arith,
        length-append (k ++ x ∷ []) (front_of xs ks),
        length-append k (x ∷ []),
        length-front_of xs ks (omega arith),
        sum_by-cons (length {A = X}) k ks,
      )

  pub length-before : (xs : List X) (ks : List (List X)) (i : ℕ) → i ≤ length xs → i ≤ length ks
      → length (before xs ks i) ≡ i + sum_by length (take i ks)
  length-before xs ks i low within =
      let first = length-take-le i xs low in
      let second = length-take-le i ks within in
      omega (arith, length-front_of (take i xs) (take i ks) (first ∙ sym second), first)

  pub regroup : (f a m b r : List X) → f ++ ((a ++ (m ++ b)) ++ r) ≡ (f ++ a) ++ (m ++ (b ++ r))
  regroup f a m b r =
      ap (λ zs. f ++ zs) (append_assoc a (m ++ b) r ∙ ap (λ zs. a ++ zs) (append_assoc m b r))
      ∙ sym (append_assoc f a (m ++ (b ++ r)))
