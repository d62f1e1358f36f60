-- What a loop has read of an array of values.
use Rattle.std.proofs.Common.{◌≡◌, refl, ◌||◌, Bool, true, false, IsTrue, List, [], ◌∷◌, ◌++◌, map, cond, arith}
use Rattle.std.proofs.lemmas.List.{map-append}
use Rattle.std.proofs.lemmas.List.Folds.{list_all-append, list_any-append}
use Rattle.std.specs.BTreeSet.{BTreeSet, IsOrdered, IsFromIterResult, Updates}
use Rattle.std.specs.Cmp.{IsTotalOrder, eq_by_cmp_equiv}
use Rattle.std.specs.List.{AllZip, list_all}
use Rattle.std.specs.Ordering.{eq_by_cmp}
use Rattle.std.specs.declared.cmp.Ordering.{Ordering}
use Rattle.std.proofs.lemmas.Bool.{and_from}
use Rattle.serde_json.specs.Data.{Data}
use Rattle.range_json.proofs.Reading.{read_more}

either_is : (a b : Bool) → cond a true b ≡ (b || (a || false))
either_is true true = refl
either_is true false = refl
either_is false true = refl
either_is false false = refl

module _ {V T : Type 0} (content : T → Data) (cmp : V → V → Ordering) (reads : Data → Bool)
    (is_read : Data → V → Type 0) where
  -- the elements are values, and the set has just these
  pub record AreValuesSoRead (vs : List T) (s : BTreeSet V) : Type 0 where
    pub sound : list_all reads (map content vs) ≡ true
    pub values : List V
    pub read : AllZip is_read (map content vs) values
    pub set : IsFromIterResult cmp values s

  module _ (total : IsTotalOrder cmp) where
    pub values_more : (vs : List T) (v : T) (old new : BTreeSet V) (x : V)
        → AreValuesSoRead vs old → is_read (content v) x → IsTrue (reads (content v))
        → Updates cmp old new x true → IsOrdered cmp new → AreValuesSoRead (vs ++ v ∷ []) new
    values_more vs v old new x h read fine updates ordered =
        let more = map-append content vs (v ∷ []) in
        let member = λ (q : V). eq_by_cmp cmp q in
        let laws = eq_by_cmp_equiv total in
        grind (arith, and_from, either_is, list_all-append, list_any-append, read_more)

  pub values_fail : (vs more : List T) (v : T) → reads (content v) ≡ false
      → list_all reads (map content (vs ++ v ∷ more)) ≡ false
  values_fail vs more v e = grind (arith, list_all-append, map-append)
