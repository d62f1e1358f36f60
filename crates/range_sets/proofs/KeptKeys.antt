-- What becomes of the keys of two sets, by what a test says of which of them holds a key.
use Rattle.std.proofs.Common.{◌≡◌, refl, ap, subst, ◌↔◌, ◌⊎◌, inl, inr, Bool, true, false, not, IsTrue, List, [], ◌∷◌, Option, Some, None, Result, Ok, arith}
use Rattle.std.specs.Prelude.{is_some}
use Rattle.std.specs.Bool.{beq}
use Rattle.std.specs.Option.{option_copied}
use denote.Ref.{Bor}
use Rattle.range_keys.specs.Order.{KeyOrder, IsLawful}
use Rattle.range_algebra.specs.declared.any.AnyRange.{AnyRange}
use Rattle.range_algebra.proofs.Meeting.{held_or_not}
use Rattle.range_store.specs.declared.storage.Item.{Item}
use Rattle.range_runs.specs.Answers.{IsAsAnswered}
use Rattle.range_runs.specs.Bindings.{Binds}
use Rattle.range_merge.specs.Combining.{AreCombined}
use Rattle.range_runs.proofs.Overlaps.{binds_bound}
use Rattle.range_set_extend.specs.KeySets.{HoldsKey}
use Rattle.range_sets.specs.TwoSets.{HoldsJustOne, AreKept}

-- two tests that are true in one case are one
same_test : {P : Type 0} (a b : Bool) → (IsTrue a ↔ P) → (IsTrue b ↔ P) → a ≡ b
same_test a b f g = grind arith

-- a test of whether it is so, or not
pub decided : {P : Type 0} → P ⊎ (¬ P) → (b : Bool) × (IsTrue b ↔ P)
decided (inl is) = (true, (λ e. is, λ h. refl))
decided (inr other) = (false, (λ e. absurd (cc), λ h. absurd (other h)))

-- by truth values: of an and with not, and a difference of two facts
module _ {A B N : Type 0} where
  just_one_is : (a b : Bool) → (IsTrue a ↔ A) → (IsTrue b ↔ B) → (IsTrue (not (beq a b)) ↔ N)
      → N ↔ ((A × (¬ B)) ⊎ ((¬ A) × B))
  just_one_is a b f g n = grind arith

-- a value is shown where there is one
pub shown_is : {V : Type 0} (shown : Option (Bor V)) (v : Option V) → option_copied shown ≡ v
    → is_some shown ≡ is_some v
shown_is None v is = ap is_some is
shown_is (Some x) v is = ap is_some is

module _ {K : Type 0} (order : KeyOrder K) where
  abbrev Items : Type 0
  Items = List (Item (AnyRange K) (Unit {0}))

  -- what a key is bound to tells whether it is held
  bound_is : (same : Unit {0} → Unit {0} → Bool) (items : Items) (k : K) (b : Option (Unit {0}))
      → Binds order same items k b → IsTrue (is_some b) ↔ HoldsKey order items k
  bound_is same items k None h = grind arith
  bound_is same items k (Some v) h = grind (arith, binds_bound order same items k v)

  answered_is : (same : Unit {0} → Unit {0} → Bool)
      → ((v : Unit {0}) → IsTrue (same v v)) → (new : Items) (k : K) (answer : Option (Unit {0}))
      → ((b : Option (Unit {0})) → Binds order same new k b ↔ IsAsAnswered same answer b)
      → IsTrue (is_some answer) ↔ HoldsKey order new k
  answered_is same equal new k None is = bound_is same new k None ((is None).1 refl)
  answered_is same equal new k (Some v) is =
      bound_is same new k (Some v) ((is (Some v)).1 (equal v))

  -- a closure that answers as a test says keeps the keys as the test says
  pub combined_kept : {E : Type 0} (same : Unit {0} → Unit {0} → Bool)
      → ((v : Unit {0}) → IsTrue (same v v)) → (answers : Option (Unit {0}) → Option (Unit {0})
      → Result (Option (Unit {0})) E → Type 0) (op : Bool → Bool → Bool)
      → ((left right answer : Option (Unit {0})) → answers left right (Ok answer)
      → is_some answer ≡ op (is_some left) (is_some right)) → (items others new : Items)
      → AreCombined order same same same answers items others new
      → AreKept order items others new op
  combined_kept same equal answers op told items others new combined =
      record {
        held = λ k key some.
            let at = combined.held k key some in
            record {
              first = is_some at.left;
              second = is_some at.right;
              in_first = bound_is same items k at.left at.first;
              in_second = bound_is same others k at.right at.second;
              is =
                  subst (λ b. IsTrue b ↔ HoldsKey order new k)
                  (told at.left at.right at.answer at.given)
                  (answered_is same equal new k at.answer at.is);
            };
        free = combined.free;
      }

  module _ (lawful : IsLawful order) where
    pub holds_or_not : (items : Items) (k : K) → HoldsKey order items k ⊎ (¬ HoldsKey order items k)
    holds_or_not [] k = inr (λ none. none)
    holds_or_not (i ∷ rest) k = grind (arith, held_or_not, holds_or_not rest k)

    -- a test that answers by op
    module _ (op : Bool → Bool → Bool) (none : op false false ≡ false)
        (items others new : Items) (kept : AreKept order items others new op) where
      kept_at : (k : K) → order.is_key k → (a b : Bool) → (IsTrue a ↔ HoldsKey order items k)
          → (IsTrue b ↔ HoldsKey order others k) → HoldsKey order items k ⊎ HoldsKey order others k
          → IsTrue (op a b) ↔ HoldsKey order new k
      kept_at k key a b f g some = grind (arith, same_test)

      kept_as : (k : K) → order.is_key k → (a b : Bool) → (IsTrue a ↔ HoldsKey order items k)
          → (IsTrue b ↔ HoldsKey order others k) → IsTrue (op a b) ↔ HoldsKey order new k
      kept_as k key a b f g = grind (arith, kept_at k key a b)

      -- what follows for a key, whichever of the lists hold it
      pub by_test : {P : Type 0} (k : K) → order.is_key k
          → ((a b : Bool) → (IsTrue a ↔ HoldsKey order items k)
          → (IsTrue b ↔ HoldsKey order others k) → (IsTrue (op a b) ↔ HoldsKey order new k) → P)
          → P
      by_test k key then = grind (arith, decided, holds_or_not, kept_as)

    module _ (items others new : Items) where
      pub kept_just_one : AreKept order items others new (λ a b. not (beq a b))
          → HoldsJustOne order items others new
      kept_just_one kept k key =
          by_test (λ a b. not (beq a b)) refl items others new kept k key just_one_is
