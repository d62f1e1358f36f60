-- Tokens that are counted, one after the other.
use Rattle.std.proofs.Common.{◌≡◌, sym, ap, subst, ◌∙◌, inl, inr, ℕ, ◌+◌, ◌<◌, ◌≤◌, ◌==◌, cond, eq-eqb, ne_eqb, List, [], ◌∷◌, ◌++◌, length, get_or, set, arith, replicate, take}
use lib.Seq.{take-append_seam}
use Rattle.std.proofs.lemmas.Bool.{cases_eq}
use Rattle.std.proofs.lemmas.List.{get_or-set_same, get_or-set_other, length-set, length-replicate, get_or-replicate}
use Rattle.std.proofs.lemmas.List.Sums.{sum_by_push}
use Rattle.tokens.specs.Counts.{count_of, AreCounts}

-- one more of a number is counted at its index
pub counts_more : (numbers counts : List ℕ) (n v : ℕ) → n < length counts → AreCounts numbers counts
    → v ≡ count_of n numbers + 1 → AreCounts (numbers ++ n ∷ []) (set counts n v)
counts_more numbers counts n v within are is k below =
    let more = sum_by_push (λ other. cond (other == k) 1 0) numbers n in
    let inside : k < length counts = omega (arith, below, length-set counts n v) in
    let was = are k inside in
    elim (cases_eq n k) [
      | inl same ↦
          let one = ap (λ b. count_of k numbers + cond b 1 0) (eq-eqb n k same) in
          subst (λ j. get_or (set counts n v) j 0 ≡ count_of k (numbers ++ n ∷ [])) same
          (get_or-set_same counts n v 0 within ∙ is ∙ ap (λ j. count_of j numbers + 1) same
          ∙ sym one ∙ sym more)
      | inr apart ↦
          let none = ap (λ b. count_of k numbers + cond b 1 0) (ne_eqb n k apart) in
          let still : count_of k numbers ≡ count_of k numbers + 0 = omega arith in
          get_or-set_other counts n k v 0 (λ e. apart (sym e)) ∙ was ∙ still ∙ sym none ∙ sym more
    ]

-- one that has no index is not counted
pub counts_beyond : (numbers counts : List ℕ) (n : ℕ) → length counts ≤ n → AreCounts numbers counts
    → AreCounts (numbers ++ n ∷ []) counts
counts_beyond numbers counts n beyond are k below =
    let more = sum_by_push (λ other. cond (other == k) 1 0) numbers n in
    let apart : ¬ (n ≡ k) = λ same. absurd (omega (arith, below, beyond, same)) in
    let none = ap (λ b. count_of k numbers + cond b 1 0) (ne_eqb n k apart) in
    let still : count_of k numbers ≡ count_of k numbers + 0 = omega arith in
    are k below ∙ still ∙ sym none ∙ sym more

pub counts_none : (n : ℕ) (counts : List ℕ) → counts ≡ replicate n 0 → AreCounts [] counts
counts_none n counts is i below =
    grind (arith, length-replicate, get_or-replicate)

-- a list that is written over as a whole
pub written_over : (n : ℕ) (xs ys : List ℕ) → length xs ≡ n → take n (xs ++ ys) ≡ xs
written_over n xs ys is = ap (λ m. take m (xs ++ ys)) (sym is) ∙ take-append_seam xs ys
