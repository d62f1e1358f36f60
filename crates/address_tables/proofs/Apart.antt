-- Lists of prefixes of which no two overlap: each address goes to the one that holds it.
use Rattle.std.proofs.Common.{◌≡◌, ℕ, ◌+◌, ◌≤◌, ◌<◌, ◌⊎◌, Bool, true, false, ◌&&◌, if◌then◌else◌, nat_le, List, [], ◌∷◌, ◌++◌, map, Some, None, inl, inr, refl, ap, sym, subst, ◌∙◌, arith}
use Rattle.std.specs.List.{AllByRecursion}
use Rattle.std.proofs.lemmas.Bool.{cases_lt}
use Rattle.std.proofs.lemmas.Bool.Decides.{nat_tests}
use Rattle.btree_range_map.specs.Intervals.{Any}
use Rattle.address_prefixes.specs.Prefixes.{HasAddress, SomeHasAddress}
use Rattle.address_prefixes.specs.declared.prefix.Prefix.{Prefix}
use Rattle.address_tables.specs.Tables.{AreApart, AreAscending, IsApart, holds, longer, longest}
use Rattle.address_tables.specs.declared.entries.Entry.{Entry}

module _ {X : Type 0} where
  -- the item is one of the list
  abbrev pub IsOneOf : X → List X → Type 0
  IsOneOf x xs = Any (λ y. y ≡ x) xs

  pub one_of_all : (P : X → Type 0) (x : X) (xs : List X) → AllByRecursion P xs → IsOneOf x xs
      → P x
  one_of_all P x [] all none = absurd none
  one_of_all P x (y ∷ xs) all (inl same) = subst P same all.0
  one_of_all P x (y ∷ xs) all (inr later) = one_of_all P x xs all.1 later

  pub one_later : (x : X) (xs ys : List X) → IsOneOf x ys → IsOneOf x (xs ++ ys)
  one_later x [] ys is = is
  one_later x (y ∷ xs) ys is = inr (one_later x xs ys is)

module _ {A : Type 0} (number : A → ℕ) where
  pub holds_has : (p : Prefix A) (a : A) → HasAddress number a p → holds number p a ≡ true
  holds_has p a has =
      let from : nat_le (number p.network) (number a) ≡ true =
      (let h = has.0 in grind (arith, nat_tests)) in
      let to : nat_le (number a) (number p.last) ≡ true =
      (let h = has.1 in grind (arith, nat_tests)) in
      rw (from, to) refl

  lacks_before : (p : Prefix A) (a : A) → number a < number p.network → holds number p a ≡ false
  lacks_before p a h =
      let from : nat_le (number p.network) (number a) ≡ false = grind (arith, nat_tests) in
      rw from refl

  lacks_by : (from : Bool) → (from && false) ≡ false
  lacks_by true = refl
  lacks_by false = refl

  lacks_after : (p : Prefix A) (a : A) → number p.last < number a → holds number p a ≡ false
  lacks_after p a h =
      let to : nat_le (number a) (number p.last) ≡ false = grind (arith, nat_tests) in
      rw to (lacks_by (nat_le (number p.network) (number a)))

  -- a prefix has an address, or does not hold it
  pub has_or_lacks : (p : Prefix A) (a : A) → HasAddress number a p ⊎ (holds number p a ≡ false)
  has_or_lacks p a = elim (cases_lt (number a) (number p.network)) [
    | inl before ↦ inr (lacks_before p a before)
    | inr from ↦ elim (cases_lt (number p.last) (number a)) [
      | inl after ↦ inr (lacks_after p a after)
      | inr to ↦ inl (from, to)
    ]
  ]

  other_lacks : (p q : Prefix A) (a : A) → IsApart number p q → HasAddress number a p
      → holds number q a ≡ false
  other_lacks p q a (inl before) has = let h = has.1 in lacks_before q a (omega arith)
  other_lacks p q a (inr after) has = let h = has.0 in lacks_after q a (omega arith)

  turned : (p q : Prefix A) → IsApart number p q → IsApart number q p
  turned p q (inl before) = inr before
  turned p q (inr after) = inl after

  module _ {V : Type 0} where
    -- none of the prefixes holds the address
    abbrev pub NoneHolds : List (Entry A V) → A → Type 0
    NoneHolds t a = AllByRecursion (λ e. holds number e.prefix a ≡ false) t

    pub none_longest : (t : List (Entry A V)) (a : A) → NoneHolds t a → longest number t a ≡ None
    none_longest [] a all = refl
    none_longest (e ∷ t) a all =
        ap (λ h. if h then longer number e (longest number t a) else longest number t a) all.0
        ∙ none_longest t a all.1

    others_lack : (p : Prefix A) (t : List (Entry A V)) (a : A)
        → AllByRecursion (λ d. IsApart number p d.prefix) t → HasAddress number a p
        → NoneHolds t a
    others_lack p [] a all has = tt
    others_lack p (d ∷ t) a all has =
        (other_lacks p d.prefix a all.0 has, others_lack p t a all.1 has)

    -- an address goes to the entry whose prefix has it
    pub routed : (t : List (Entry A V)) → AreApart number t → (e : Entry A V) → IsOneOf e t
        → (a : A) → HasAddress number a e.prefix → longest number t a ≡ Some e
    routed [] apart e none a has = absurd none
    routed (d ∷ t) apart e (inl same) a has =
        let here : HasAddress number a d.prefix =
        subst (λ x. HasAddress number a x.prefix) (sym same) has in
        ap (λ h. if h then longer number d (longest number t a) else longest number t a)
        (holds_has d.prefix a here)
        ∙ ap (λ x. longer number d x)
        (none_longest t a (others_lack d.prefix t a apart.0 here))
        ∙ ap (λ x. Some x) same
    routed (d ∷ t) apart e (inr later) a has =
        let one = one_of_all (λ x. IsApart number d.prefix x.prefix) e t apart.0 later in
        ap (λ h. if h then longer number d (longest number t a) else longest number t a)
        (other_lacks e.prefix d.prefix a (turned d.prefix e.prefix one) has)
        ∙ routed t apart.1 e later a has

    -- where there is a longest prefix, some prefix has the address
    pub some_has : (t : List (Entry A V)) (a : A) → ¬ (longest number t a ≡ None)
        → SomeHasAddress number (map (λ e. e.prefix) t) a
    some_has [] a some = absurd (some refl)
    some_has (e ∷ t) a some = elim (has_or_lacks e.prefix a) [
      | inl here ↦ inl here
      | inr lacks ↦ inr (some_has t a (λ none. some
          (ap (λ h. if h then longer number e (longest number t a) else longest number t a) lacks
          ∙ none)))
    ]

    -- the prefixes have addresses, from a number on and one after the other
    abbrev pub AreWithin : ℕ → List (Entry A V) → Type 0
    AreWithin from [] = Unit {0}
    AreWithin from (e ∷ t) = (from ≤ number e.prefix.network)
        × (number e.prefix.network ≤ number e.prefix.last) × AreWithin (number e.prefix.last + 1) t

    pub within_more : (from more : ℕ) (t : List (Entry A V)) → from ≤ more → AreWithin more t
        → AreWithin from t
    within_more from more [] le within = tt
    within_more from more (e ∷ t) le within =
        let h = within.0 in (omega arith, within.1, within.2)

    all_from : (from : ℕ) (t : List (Entry A V)) → AreWithin from t
        → AllByRecursion (λ d. from ≤ number d.prefix.network) t
    all_from from [] within = tt
    all_from from (e ∷ t) within =
        let h = within.0 in
        let k = within.1 in (
          within.0,
          all_from from t (within_more from (number e.prefix.last + 1) t (omega arith) within.2),
        )

    apart_from : (p : Prefix A) (t : List (Entry A V))
        → AllByRecursion (λ d. number p.last + 1 ≤ number d.prefix.network) t
        → AllByRecursion (λ d. IsApart number p d.prefix) t
    apart_from p [] all = tt
    apart_from p (d ∷ t) all = (inl (let h = all.0 in omega arith), apart_from p t all.1)

    pub within_apart : (from : ℕ) (t : List (Entry A V)) → AreWithin from t → AreApart number t
    within_apart from [] within = tt
    within_apart from (e ∷ t) within = (
      apart_from e.prefix t (all_from (number e.prefix.last + 1) t within.2),
      within_apart (number e.prefix.last + 1) t within.2,
    )

    pub within_ascending : (from : ℕ) (t : List (Entry A V)) → AreWithin from t
        → AreAscending number t
    within_ascending from [] within = tt
    within_ascending from (e ∷ []) within = (tt, tt)
    within_ascending from (e ∷ d ∷ t) within = (
      (let h = within.2.0 in omega arith),
      within_ascending (number e.prefix.last + 1) (d ∷ t) within.2,
    )
