-- Lists as JSON: their texts, and what is read of texts.
use Rattle.std.proofs.Common.{◌≡◌, ℕ, Bool, false, ◌||◌, List, [], ◌∷◌, ◌++◌, map, Option, None, Some, Result, Ok, Err, IfOk, inl, inr, ap, refl, sym, subst, ◌∙◌, arith}
use Rattle.std.specs.declared.ops.Bound.{Bound}
use Rattle.std.specs.declared.ops.Bound.TheVariants.{Included, Excluded, Unbounded}
use Rattle.serde_json.specs.Data.{Data}
use Rattle.serde_json.specs.View.{view}
use Rattle.serde_json.specs.Written.{has_float}
use Rattle.serde_json.specs.declared.value.Value.{Value}
use Rattle.btree_range_map.specs.AnyRange.{AnyRange}
use Rattle.btree_range_map.specs.Names.{range_inclusive}
use Rattle.btree_range_map.specs.Shapes.{bound_shape, range_shape}
use Rattle.address_keys.specs.Addresses.{ipv4_at, ipv4_number, ipv6_at, ipv6_number}
use Rattle.address_keys.specs.Json.{IsIpv4Read, IsIpv6Read, ipv4_shape, ipv6_shape, reads_ipv4, reads_ipv6}
use Rattle.address_text.specs.declared.family.Family.{Family}
use Rattle.address_text.specs.declared.family.Family.TheVariants.{V4, V6}
use Rattle.address_lists.specs.Json.{IsListShape, IsMemberReason, IsSetShape, IsValueReason, member_of, runs_shape, span_shape}
use Rattle.address_lists.specs.declared.addresses.Addresses.{Addresses}
use Rattle.address_lists.specs.declared.read.ListError.{ListError}

neither_true : (a b : Bool) → a ≡ false → b ≡ false → (a || b) ≡ false
neither_true a b p q = rw (p, q) refl

module _ {K : Type 0} (shape : K → Data)
    (has_none : (key : K) → has_float (shape key) ≡ false) where
  bound_has_no_float : (b : Bound K) → has_float (bound_shape shape b) ≡ false
  bound_has_no_float (Included k) = neither_true (has_float (shape k)) false (has_none k) refl
  bound_has_no_float (Excluded k) = neither_true (has_float (shape k)) false (has_none k) refl
  bound_has_no_float Unbounded = refl

  range_has_no_float : (r : AnyRange K) → has_float (range_shape shape r) ≡ false
  range_has_no_float r = grind (arith, neither_true, bound_has_no_float)

  runs_have_no_float : (at : ℕ → K) (runs : List (ℕ × ℕ))
      → has_float (runs_shape shape at runs) ≡ false
  runs_have_no_float at [] = refl
  runs_have_no_float at (run ∷ runs) =
      neither_true (has_float (span_shape shape at run)) (has_float (runs_shape shape at runs))
      (range_has_no_float (range_inclusive (at run.0) (at run.1))) (runs_have_no_float at runs)

set_has_no_float : (list : Addresses) (family : Family) (d : Data) → IsSetShape list family d
    → has_float d ≡ false
set_has_no_float list V4 d (runs, whole, is) =
    ap has_float is ∙ runs_have_no_float ipv4_shape (λ key. refl) ipv4_at runs
set_has_no_float list V6 d (runs, whole, is) =
    ap has_float is ∙ runs_have_no_float ipv6_shape (λ key. refl) ipv6_at runs

-- what a list is written as has no float, so its text is known
pub list_has_no_float : (list : Addresses) (d : Data) → IsListShape list d → has_float d ≡ false
list_has_no_float list d (v4, v6, first, second, is) =
    ap has_float is
    ∙ neither_true (has_float v4) (has_float v6 || false) (set_has_no_float list V4 v4 first)
    (neither_true (has_float v6) false (set_has_no_float list V6 v6 second) refl)

-- the values of the runs before those that are left
abbrev pub AreValuesTo : {X : Type 0} → (X → Data) → List X → List X → List Value → Type 0
AreValuesTo shape all left done = map view done ++ map shape left ≡ map shape all

pub if_ok_as : {A E : Type 0} (r : Result A E) (P Q : A → Type 0) → ((x : A) → P x → Q x) → IfOk r P
    → IfOk r Q
if_ok_as (Ok x) P Q follows held = follows x held
if_ok_as (Err e) P Q follows held = tt

-- why the set of a family is not read
v4_unread : (d set : Data) (e : ListError) → member_of V4 d ≡ Some set
    → IsMemberReason V4 IsIpv4Read ipv4_number reads_ipv4 (Some set) e → IsValueReason d e
v4_unread d set e is (inl (inl memory)) = subst (IsValueReason d) (sym memory) tt
v4_unread d set e is (inl (inr (fault, same, found))) =
    subst (IsValueReason d) (sym same) (set, is, found)
v4_unread d set e is (inr (inl memory)) = subst (IsValueReason d) (sym memory) tt
v4_unread d set e is (inr (inr (place, same, found))) =
    subst (IsValueReason d) (sym same) (set, is, found)

v6_unread : (d set : Data) (e : ListError) → member_of V6 d ≡ Some set
    → IsMemberReason V6 IsIpv6Read ipv6_number reads_ipv6 (Some set) e → IsValueReason d e
v6_unread d set e is (inl (inl memory)) = subst (IsValueReason d) (sym memory) tt
v6_unread d set e is (inl (inr (fault, same, found))) =
    subst (IsValueReason d) (sym same) (set, is, found)
v6_unread d set e is (inr (inl memory)) = subst (IsValueReason d) (sym memory) tt
v6_unread d set e is (inr (inr (place, same, found))) =
    subst (IsValueReason d) (sym same) (set, is, found)

pub v4_member_unread : (d : Data) (member : Option Data) (e : ListError)
    → member ≡ member_of V4 d
    → IsMemberReason V4 IsIpv4Read ipv4_number reads_ipv4 member e → IsValueReason d e
v4_member_unread d None e same why = absurd why
v4_member_unread d (Some set) e same why = v4_unread d set e (sym same) why

pub v6_member_unread : (d : Data) (member : Option Data) (e : ListError)
    → member ≡ member_of V6 d
    → IsMemberReason V6 IsIpv6Read ipv6_number reads_ipv6 member e → IsValueReason d e
v6_member_unread d None e same why = absurd why
v6_member_unread d (Some set) e same why = v6_unread d set e (sym same) why
