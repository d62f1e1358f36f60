-- When two of std's ordered sets, which are lists in order, have the same values.
use Rattle.std.proofs.Common.{◌≡◌, refl, sym, ap, ◌∙◌, subst, Bool, true, false, ◌||◌, IsTrue, List, [], ◌∷◌}
use Rattle.std.specs.declared.cmp.Ordering.{Ordering}
use Rattle.std.specs.declared.cmp.Ordering.TheVariants.{Less, Equal, Greater}
use Rattle.std.specs.Ordering.{eq_by_cmp, is_eq, ordering_reverse}
use Rattle.std.specs.Cmp.{IsEquivalence, IsTotalOrder, tied_itself, eq_by_cmp_equiv}
use Rattle.std.specs.Cmp.Lexicographic.{pointwise}
use Rattle.std.specs.List.{AllByRecursion, list_any}
use Rattle.std.specs.List.Sorted.{IsStrictlySortedBy}
use Rattle.std.specs.BTreeSet.{BTreeSet, IsOrdered, contains}
use Rattle.std.proofs.lemmas.Map.Keys.{sorted_head, sorted_tail}
use Rattle.std.proofs.lemmas.Bool.{and_from, or_left}

-- whether some element equals the value
abbrev pub has_value : {V : Type 0} → (V → V → Bool) → List V → V → Bool
has_value eq xs v = list_any (eq v) xs

module _ {V : Type 0} (eq : V → V → Bool) (laws : IsEquivalence eq) where
  pub equal_value : (xs : List V) (v w : V) → IsTrue (eq v w)
      → has_value eq xs v ≡ has_value eq xs w
  equal_value [] v w e = refl
  equal_value (x ∷ xs) v w e = λ i. laws.congr v w x e i || equal_value xs v w e i

  pub to_equal : (v x y : V) → IsTrue (eq x y) → eq v x ≡ eq v y
  to_equal v x y e = laws.symm v x ∙ laws.congr x y v e ∙ laws.symm y v

module _ {V : Type 0} (cmp : V → V → Ordering) (total : IsTotalOrder cmp) where
  abbrev tied : V → V → Bool
  tied = eq_by_cmp cmp

  below_all : (v x : V) (xs : List V) → cmp v x ≡ Less → AllByRecursion (λ y. cmp x y ≡ Less) xs
      → AllByRecursion (λ y. cmp v y ≡ Less) xs
  below_all v x [] e h = tt
  below_all v x (y ∷ ys) e h = (total.trans v x y e h.0, below_all v x ys e h.1)

  below_has_not : (v : V) (xs : List V) → AllByRecursion (λ y. cmp v y ≡ Less) xs
      → has_value tied xs v ≡ false
  below_has_not v [] h = refl
  below_has_not v (x ∷ xs) h = rw h.0 (below_has_not v xs h.1)

  before_has_not : (v x : V) (xs : List V) → IsStrictlySortedBy cmp (x ∷ xs) → cmp v x ≡ Less
      → has_value tied (x ∷ xs) v ≡ false
  before_has_not v x xs sorted e =
      below_has_not v (x ∷ xs) (e, below_all v x xs e (sorted_head cmp x xs sorted))

  has_first : (x : V) (xs : List V) → has_value tied (x ∷ xs) x ≡ true
  has_first x xs = or_left (tied x x) (has_value tied xs x) (ap is_eq (tied_itself total x))

  module _ (x y : V) (xs ys : List V) (sorted : IsStrictlySortedBy cmp (x ∷ xs))
      (other_sorted : IsStrictlySortedBy cmp (y ∷ ys))
      (same : (v : V) → has_value tied (x ∷ xs) v ≡ has_value tied (y ∷ ys) v) where
    first_by : (r : Ordering) → cmp x y ≡ r → cmp x y ≡ Equal
    first_by Less e = let out =
        sym (has_first x xs) ∙ same x ∙ before_has_not x y ys other_sorted e in absurd cc
    first_by Equal e = e
    first_by Greater e = let out =
        sym (has_first y ys) ∙ sym (same y)
        ∙ before_has_not y x xs sorted (total.antisymm y x ∙ ap ordering_reverse e) in absurd cc

    first : cmp x y ≡ Equal
    first = first_by (cmp x y) refl

    by_first : (v : V) (b : Bool) → tied v x ≡ b → has_value tied xs v ≡ has_value tied ys v
    by_first v true e =
        let laws = eq_by_cmp_equiv total in
        let at_other = sym (to_equal tied laws v x y (ap is_eq first)) ∙ e in
        equal_value tied laws xs v x e ∙ below_has_not x xs (sorted_head cmp x xs sorted)
        ∙ sym (equal_value tied laws ys v y at_other
        ∙ below_has_not y ys (sorted_head cmp y ys other_sorted))
    by_first v false e =
        let at_other = sym (to_equal tied (eq_by_cmp_equiv total) v x y (ap is_eq first)) ∙ e in
        ap (λ b. b || has_value tied xs v) (sym e) ∙ same v
        ∙ ap (λ b. b || has_value tied ys v) at_other

  sorted_pointwise : (xs ys : List V) → IsStrictlySortedBy cmp xs → IsStrictlySortedBy cmp ys
      → ((v : V) → has_value tied xs v ≡ has_value tied ys v) → IsTrue (pointwise tied xs ys)
  sorted_pointwise [] [] s t same = refl
  sorted_pointwise [] (y ∷ ys) s t same = let out = same y ∙ has_first y ys in absurd cc
  sorted_pointwise (x ∷ xs) [] s t same = let out = sym (has_first x xs) ∙ same x in absurd cc
  sorted_pointwise (x ∷ xs) (y ∷ ys) s t same =
      and_from (tied x y) (pointwise tied xs ys) (ap is_eq (first x y xs ys s t same))
      (sorted_pointwise xs ys (sorted_tail cmp x xs s) (sorted_tail cmp y ys t)
      (λ v. by_first x y xs ys s t same v (tied v x) refl))

  module _ (eq : V → V → Bool) (ties : (x y : V) → eq x y ≡ eq_by_cmp cmp x y) where
    abbrev alike : eq ≡ tied
    alike = λ i x y. ties x y i

    -- two ordered sets with the same values are equal
    pub tree_same_equal : (s t : BTreeSet V) → IsOrdered cmp s → IsOrdered cmp t
        → ((v : V) → contains cmp s v ≡ contains cmp t v) → IsTrue (pointwise eq s.keys t.keys)
    tree_same_equal s t a b same =
        subst (λ e. IsTrue (pointwise e s.keys t.keys)) (sym alike)
        (sorted_pointwise s.keys t.keys a b same)
