-- One rule more, one start more, one end more.
use Rattle.std.proofs.Common.{◌≡◌, ◌↔◌, ◌⊎◌, ℕ, ◌≤◌, List, [], ◌∷◌, ◌++◌, take, drop, arith}
use Rattle.std.proofs.lemmas.Bool.{cases_eq}
use Rattle.std.proofs.lemmas.Bool.Decides.{nat_tests}
use Rattle.std.proofs.lemmas.List.{take-append-drop}
use Rattle.btree_range_map.specs.Characters.{character_order}
use Rattle.btree_range_map.specs.Order.{NotAbove}
use Rattle.lexing_patterns.specs.declared.draft.End.{End}
use Rattle.lexing_patterns.specs.Drafts.{HasEnd, EndsAtOne}
use Rattle.lexing_classes.proofs.Any.{any-append}

pub same_both : {A B C : Type 0} → A ↔ B → B ↔ C → A ↔ C
same_both ab bc = (λ a. bc.0 (ab.0 a), λ c. ab.1 (bc.1 c))

pub not_above : (a b : ℕ) → NotAbove character_order a b ↔ (a ≤ b)
not_above a b = grind (arith, nat_tests)

has_end-append : (xs ys : List End) (q r : ℕ)
    → HasEnd (xs ++ ys) q r ↔ (HasEnd xs q r ⊎ HasEnd ys q r)
has_end-append xs ys q r = any-append (λ end. (q ≡ end.state) × (r ≡ end.rule)) xs ys

pub one_in_front : (ends front : List End) (n : ℕ) → take n ends ≡ front → EndsAtOne ends
    → EndsAtOne front
one_in_front ends front n is one q r s h k =
    let parts = has_end-append (take n ends) (drop n ends) q in
    grind (arith, take-append-drop n ends, one q r s, parts r, parts s)

module _ (Before After : ℕ → ℕ → Type 0) (front : List End) (end : End)
    (one : EndsAtOne (front ++ end ∷ []))
    (before : (q r : ℕ) → Before q r ↔ HasEnd front q r)
    (after : (q r : ℕ) → After q r ↔ (((q ≡ end.state) × (r ≡ end.rule))
    ⊎ ((¬ (q ≡ end.state)) × Before q r))) where
  pub one_more_end : (q r : ℕ) → After q r ↔ HasEnd (front ++ end ∷ []) q r
  one_more_end q r =
      let parts = has_end-append front (end ∷ []) q in
      let now = after q r in
      let last = parts end.rule in
      grind (arith, before q r, one q r end.rule, parts r, cases_eq q end.state)
