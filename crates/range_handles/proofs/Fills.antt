-- One more item is written behind those that were, and one more key looked up.
use Rattle.std.proofs.Common.{◌≡◌, ◌∙◌, ap, arith, ℕ, ◌+◌, ◌<◌, ◌≤◌, ◌++◌, List, [], ◌∷◌, map, reverse, take, length, slice_set, sym, subst, get_or}
use Rattle.std.specs.List.{AllZip}
use Rattle.std.proofs.lemmas.Slice.Zip.{all_zipped_more}
use Rattle.std.proofs.lemmas.List.{take_more, take_more_set, map_push, append_assoc, reverse-append, reverse-reverse, length-append, length-map, length-take-le}

-- of nothing, nothing is written
pub none_filled : {X E : Type 0} (said : E → X) (slots : List E) (n : ℕ) (rest : List X)
    → n ≤ length slots → [] ≡ map said (take n slots) ++ rest → n ≡ 0
none_filled said slots n rest within is =
    let lengths : 0 ≡ n + length rest =
    ap length is
    ∙ (length-append (map said (take n slots)) rest
    ∙ ap (λ m. m + length rest)
    (length-map (take n slots) said ∙ length-take-le n slots within))
    in
    omega arith

module _ {X E : Type 0} (said : E → X) (slots : List E) (n : ℕ) (e : E) where
  pub one_more : (all : List X) (x : X) (left : List X) → n < length slots
      → all ≡ map said (take n slots) ++ x ∷ left → said e ≡ x
      → all ≡ map said (take (n + 1) (slice_set slots n e)) ++ left
  one_more all x left within before is =
      before
      ∙ (ap (λ y. map said (take n slots) ++ y ∷ left) (sym is)
      ∙ (sym (append_assoc (map said (take n slots)) (said e ∷ []) left)
      ∙ (ap (λ l. l ++ left) (sym (map_push said (take n slots) e))
      ∙ ap (λ l. map said l ++ left) (sym (take_more_set slots n e within)))))

-- what comes from the back stands behind what is left
pub from_the_back : {X E : Type 0} (said : E → X) (written : List E) (all left : List X)
    → reverse all ≡ map said written ++ reverse left → all ≡ left ++ reverse (map said written)
from_the_back said written all left is =
    sym (reverse-reverse all)
    ∙ (ap reverse is
    ∙ (reverse-append (map said written) (reverse left)
    ∙ ap (λ l. l ++ reverse (map said written)) (reverse-reverse left)))

-- one more of both lists
pub one_more_pair : {A B : Type 0} (R : A → B → Type 0) (xs : List A) (ys : List B) (n : ℕ) (d : A)
    (y : B) → n < length xs → n < length ys → AllZip R (take n xs) (take n ys)
    → R (get_or xs n d) y → AllZip R (take (n + 1) xs) (take (n + 1) (slice_set ys n y))
one_more_pair R xs ys n d y within room were is =
    subst (λ us. AllZip R us (take (n + 1) (slice_set ys n y))) (sym (take_more xs n d within))
    (subst (λ vs. AllZip R (take n xs ++ get_or xs n d ∷ []) vs) (sym (take_more_set ys n y room))
    (all_zipped_more R (take n xs) (take n ys) (get_or xs n d) y were is))
