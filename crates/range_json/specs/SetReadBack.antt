-- What is written of a set of values stands for it: the laws of `ReadsBack`.
use Rattle.std.proofs.Common.{◌≡◌, refl, sym, ap, subst, ◌∙◌, ◌||◌, Bool, true, IsTrue, List, [], ◌∷◌, map, Some}
use Rattle.std.specs.BTreeSet.{BTreeSet, IsEmpty}
use Rattle.std.specs.Cmp.{IsTotalOrder, eq_by_cmp_equiv}
use Rattle.std.specs.Cmp.Lexicographic.{pointwise}
use Rattle.std.specs.List.{AllByRecursion, AllZip, list_all, list_any}
use Rattle.std.specs.Ordering.{eq_by_cmp}
use Rattle.std.specs.declared.cmp.Ordering.{Ordering}
use Rattle.std.proofs.lemmas.Bool.{and_from}
use Rattle.std.proofs.lemmas.Option.{same_Some}
use Rattle.serde_json.specs.Data.{Data}
use Rattle.serde_json.specs.View.{items_of}
use Rattle.range_map.specs.OrderedSets.{tree_same_equal}
use Rattle.range_json.specs.Shapes.{elements_of, list_of}
use Rattle.range_json.specs.ValueSets.{reads_values, reads_some, values_shape, IsValueSet, AreValuesRead}

-- the elements of an array are the list that it is made of
pub list_back : (ds : List Data) → list_of (items_of ds) ≡ ds
list_back [] = refl
list_back (d ∷ ds) = ap (λ es. d ∷ es) (list_back ds)

module _ {V : Type 0} (cmp : V → V → Ordering) (total : IsTotalOrder cmp) (eq : V → V → Bool)
    (ties : (x y : V) → eq x y ≡ eq_by_cmp cmp x y) where
  abbrev Same : V → V → Type 0
  Same x y = IsTrue (eq x y)

  same_members : (xs ys : List V) → AllZip Same xs ys → (q : V)
      → list_any (eq_by_cmp cmp q) xs ≡ list_any (eq_by_cmp cmp q) ys
  same_members [] [] h q = refl
  same_members [] (y ∷ ys) h q = absurd h
  same_members (x ∷ xs) [] h q = absurd h
  same_members (x ∷ xs) (y ∷ ys) h q =
      let laws = eq_by_cmp_equiv total in
      let first : eq_by_cmp cmp q x ≡ eq_by_cmp cmp q y =
      laws.symm q x ∙ laws.congr x y q (sym (ties x y) ∙ h.0) ∙ laws.symm y q in
      λ i. first i || same_members xs ys h.1 q i

  zip_both : (R : Data → V → Type 0) (ds : List Data) (xs ys : List V)
      → ((d : Data) (x y : V) → R d x → R d y → Same x y) → AllZip R ds xs → AllZip R ds ys
      → AllZip Same xs ys
  zip_both R [] [] [] one h k = tt
  zip_both R [] [] (y ∷ ys) one h k = absurd k
  zip_both R [] (x ∷ xs) ys one h k = absurd h
  zip_both R (d ∷ ds) [] ys one h k = absurd h
  zip_both R (d ∷ ds) (x ∷ xs) [] one h k = absurd k
  zip_both R (d ∷ ds) (x ∷ xs) (y ∷ ys) one h k =
      (one d x y h.0 k.0, zip_both R ds xs ys one h.1 k.1)

  module _ (is_read : Data → V → Type 0) where
    -- an array is not read as two unequal sets
    pub one_set : ((d : Data) (x y : V) → is_read d x → is_read d y → Same x y)
        → (d : Data) (s t : BTreeSet V) → AreValuesRead cmp is_read d s
        → AreValuesRead cmp is_read d t → IsTrue (pointwise eq s.keys t.keys)
    one_set one d s t h k =
        let same : k.ds ≡ h.ds = same_Some k.ds h.ds (sym k.whole ∙ h.whole) in
        let zip =
        zip_both is_read h.ds h.values k.values one h.read
        (subst (λ ds. AllZip is_read ds k.values) same k.read) in
        tree_same_equal cmp total eq ties s t h.set.1 k.set.1
        (λ q. h.set.0 q ∙ same_members h.values k.values zip q ∙ sym (k.set.0 q))

    module _ (shape : V → Data) (is_value : V → Type 0) where
      zip_back : (xs ys : List V) → ((x y : V) → is_value x → is_read (shape x) y → Same x y)
          → AllByRecursion is_value xs → AllZip is_read (map shape xs) ys → AllZip Same xs ys
      zip_back [] [] back v h = tt
      zip_back [] (y ∷ ys) back v h = absurd h
      zip_back (x ∷ xs) [] back v h = absurd h
      zip_back (x ∷ xs) (y ∷ ys) back v h = (back x y v.0 h.0, zip_back xs ys back v.1 h.1)

      -- a written set is read back as an equal one
      pub set_back : ((x y : V) → is_value x → is_read (shape x) y → Same x y) → (s t : BTreeSet V)
          → IsValueSet cmp is_value s → AreValuesRead cmp is_read (values_shape shape s) t
          → IsTrue (pointwise eq s.keys t.keys)
      set_back back s t v h =
          let listed : map shape s.keys ≡ h.ds =
          same_Some (map shape s.keys) h.ds
          (ap Some (sym (list_back (map shape s.keys))) ∙ h.whole) in
          let zip =
          zip_back s.keys h.values back v.1
          (subst (λ ds. AllZip is_read ds h.values) (sym listed) h.read) in
          tree_same_equal cmp total eq ties s t v.0 h.set.1
          (λ q. same_members s.keys h.values zip q ∙ sym (h.set.0 q))

module _ {V : Type 0} (shape : V → Data) (reads : Data → Bool) (is_value : V → Type 0)
    (written : (x : V) → is_value x → IsTrue (reads (shape x))) where
  all_written : (xs : List V) → AllByRecursion is_value xs → list_all reads (map shape xs) ≡ true
  all_written [] v = refl
  all_written (x ∷ xs) v =
      and_from (reads (shape x)) (list_all reads (map shape xs)) (written x v.0)
      (all_written xs v.1)

  -- a written set is an array of values
  pub set_written : (cmp : V → V → Ordering) (s : BTreeSet V) → IsValueSet cmp is_value s
      → IsTrue (reads_values reads (values_shape shape s))
  set_written cmp s v = ap (list_all reads) (list_back (map shape s.keys)) ∙ all_written s.keys v.1

  some_written : (xs : List V) → AllByRecursion is_value xs → ¬ (xs ≡ [])
      → IsTrue (reads_some reads (Some (map shape xs)))
  some_written [] v full = absurd (full refl)
  some_written (x ∷ xs) v full = all_written (x ∷ xs) v

  -- a written set with a value is such an array that is not empty
  pub full_set_written : (cmp : V → V → Ordering) (s : BTreeSet V) → IsValueSet cmp is_value s
      → ¬ IsEmpty s → IsTrue (reads_some reads (elements_of (values_shape shape s)))
  full_set_written cmp s v full =
      ap (λ ds. reads_some reads (Some ds)) (list_back (map shape s.keys))
      ∙ some_written s.keys v.1 full
