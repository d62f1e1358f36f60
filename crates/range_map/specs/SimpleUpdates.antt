-- What an update makes of a list where its closure answers alike to all that it is shown: for who
-- calls `update` with a simple closure. Each follows from the clause `rebound`.
use Rattle.std.specs.Prelude.{◌≡◌, ◌↔◌, Bool, List, Option, Some, None, Result, Ok}
use Rattle.range_map.specs.Common.{KeyOrder, Holds, AnyRange, Item, IsAsAnswered, Binds, IsBound, IsSomeOf, IsBoundAfter, IsUnboundAfter}
use Rattle.std.proofs.Common.{subst, sym}
use Rattle.range_map.specs.Rebinding.{AreRebound}

module _ {K : Type 0} (order : KeyOrder K) {V : Type 0} (same : V → V → Bool) {E : Type 0}
    (may : Option V → Result (Option V) E → Type 0) (items new : List (Item (AnyRange K) V))
    (r : AnyRange K) (rebound : AreRebound order same may items new r) where
  answered_value : (v : V) (b : Option V) → IsAsAnswered same (Some v) b ↔ IsSomeOf order same v b
  answered_value v None = (λ h. h, λ h. h)
  answered_value v (Some w) = (λ h. h, λ h. h)

  -- a closure that answers this value to whatever it is shown binds the range to it
  pub constant_binds : (v : V) → ((old answer : Option V) → may old (Ok answer) → answer ≡ Some v)
      → IsBoundAfter order same items new r v
  constant_binds v constant =
      record {
        held = λ k key within b.
            let after = rebound.held k key within in
            let is = subst (λ a. IsAsAnswered same a b ↔ IsSomeOf order same v b)
            (sym (constant after.old after.answer after.given)) (answered_value v b) in
            (λ bound. is.0 ((after.is b).0 bound), λ some. (after.is b).1 (is.1 some));
        others = rebound.others;
      }

  -- a closure that answers none to whatever it is shown unbinds the range
  pub clearing_unbinds : ((old answer : Option V) → may old (Ok answer) → answer ≡ None)
      → IsUnboundAfter order same items new r
  clearing_unbinds clearing =
      record {
        held = λ k key within b.
            let after = rebound.held k key within in
            subst (λ a. Binds order same new k b ↔ IsAsAnswered same a b)
            (clearing after.old after.answer after.given) (after.is b);
        others = rebound.others;
      }

  -- a closure that has no answer but an error to a value leaves no update of a range in which a key
  -- is bound
  pub refusing_found_free : ((old answer : Option V) → may old (Ok answer) → old ≡ None) → (k : K)
      → order.is_key k → Holds order r k → ¬ IsBound order items k
  refusing_found_free refusing k key within =
      let after = rebound.held k key within in
      subst (Binds order same items k) (refusing after.old after.answer after.given) after.was
