-- Ranges of a set in JSON, one after the other: whether one begins above its end.
use Rattle.std.proofs.Common.{◌≡◌, ℕ, ◌+◌, ◌<◌, List, [], ◌∷◌, ◌++◌, length, take, map, Option, None, Some, get_or, ap, refl, sym, subst, ◌∙◌, arith}
use Rattle.std.proofs.lemmas.List.{get_or-map, length-map, map_more, take-map, take_all}
use Rattle.std.specs.Prelude.{MatchOption, option_map}
use Rattle.std.specs.List.{AllByRecursion, HoldsAt}
use Rattle.serde_json.specs.Data.{Data, null, boolean, number, string, array, object}
use Rattle.serde_json.specs.Find.{as_array}
use Rattle.serde_json.specs.View.{items_of, items_view, view}
use Rattle.serde_json.specs.declared.value.Value.{Value}
use Rattle.btree_range_map.specs.Shapes.{elements_of, list_of}

list_items : (ds : List Data) → list_of (items_of ds) ≡ ds
list_items [] = refl
list_items (d ∷ ds) = ap (λ rest. d ∷ rest) (list_items ds)

elements_as : (d : Data) → elements_of d ≡ option_map list_of (as_array d)
elements_as null = refl
elements_as (boolean b) = refl
elements_as (number n) = refl
elements_as (string s) = refl
elements_as (array ds) = refl
elements_as (object ms) = refl

-- the elements of an array are these values
pub elements_are : (d : Data) (values : List Value) → Some (items_view values) ≡ as_array d
    → elements_of d ≡ Some (map view values)
elements_are d values is =
    elements_as d ∙ ap (option_map list_of) (sym is) ∙ ap Some (list_items (map view values))

some_same : {X : Type 0} (x y : X) → Some x ≡ Some y → x ≡ y
some_same x y same = cc

-- what all values are, the elements are
pub all_elements : (P : Data → Type 0) (d : Data) (values : List Value)
    → Some (items_view values) ≡ as_array d → AllByRecursion P (map view values)
    → (ds : List Data) → elements_of d ≡ Some ds → AllByRecursion P ds
all_elements P d values is all ds same =
    subst (AllByRecursion P)
    (some_same (map view values) ds (sym (elements_are d values is) ∙ same)) all

all_push : {X : Type 0} (P : X → Type 0) (xs : List X) (x : X) → AllByRecursion P xs → P x
    → AllByRecursion P (xs ++ x ∷ [])
all_push P [] x all one = (one, tt)
all_push P (y ∷ ys) x all one = (all.0, all_push P ys x all.1 one)

-- one value more is such
pub one_such : (P : Data → Type 0) (values : List Value) (i : ℕ) (value : Value)
    → i < length values → AllByRecursion P (map view (take i values))
    → P (view (get_or values i value)) → AllByRecursion P (map view (take (i + 1) values))
one_such P values i value below all one =
    subst (AllByRecursion P) (sym (map_more view values i value below))
    (all_push P (map view (take i values)) (view (get_or values i value)) all one)

-- the values before this one are such, and it is another
pub first_other : (P Q : Data → Type 0) (values : List Value) (i : ℕ) (value : Value)
    → i < length values → AllByRecursion P (map view (take i values))
    → Q (view (get_or values i value))
    → (i < length (map view values)) × AllByRecursion P (take i (map view values))
    × HoldsAt Q (map view values) i
first_other P Q values i value below all one = (
  subst (λ n. i < n) (sym (length-map values view)) below,
  subst (AllByRecursion P) (sym (take-map view i values)) all,
  λ d. subst Q (sym (get_or-map view values i value d below)) one,
)

-- all values are such
pub all_such : (P : Data → Type 0) (values : List Value) (i : ℕ) → ¬ (i < length values)
    → AllByRecursion P (map view (take i values)) → AllByRecursion P (map view values)
all_such P values i ended all =
    subst (λ vs. AllByRecursion P (map view vs))
    (take_all i values (omega (arith, ended))) all

-- what is said of an answer, in each case
pub found_none : (P : Type 0) (Q : ℕ → Type 0) (found : Option ℕ) → found ≡ None
    → MatchOption found P Q → P
found_none P Q None is said = said
found_none P Q (Some n) is said = cc

pub found_some : (P : Type 0) (Q : ℕ → Type 0) (found : Option ℕ) (n : ℕ) → found ≡ Some n
    → MatchOption found P Q → Q n
found_some P Q None n is said = cc
found_some P Q (Some m) n is said = subst Q (some_same m n is) said
