-- What a pass over two maps tells that stops at the first keys of a kind.
use Rattle.std.proofs.Common.{◌≡◌, inl, refl, arith}
use Rattle.std.specs.Prelude.{◌↔◌, is_ok, IfOk, IsErr, IsTrue, Bool, false, Option, None, Some, Result, Ok, Err, ℤ}
use Rattle.std.specs.Ordering.{int_eq}
use Rattle.btree_range_map.specs.Bindings.{Binds, IsBound}
use Rattle.btree_range_map.specs.Combining.{AreCombined, MayFailOnBoth, MayGiveValueOnBoth}
use Rattle.btree_range_map.specs.HeldKeys.{IsBoundWhere, shared_part_has_key}
use Rattle.btree_range_map.specs.Order.{KeyOrder, IsComplete, IsLawful}
use Rattle.btree_range_map.specs.Together.{BindKeysOf, ShareNoKey}
use Rattle.btree_range_map.specs.UpdateError.{UpdateError}
use Rattle.btree_range_map.specs.UpdateError.TheVariants.{Closure, Memory}
use Rattle.rangecalc.specs.Ranges.{Ranges}
use Rattle.rangecalc.specs.Two.{FindsAlone, FindsShared}
use Rattle.rangecalc.proofs.Itself.{is_bound}

module _ {K E : Type 0} (order : KeyOrder K) (lawful : IsLawful order)
    (complete : IsComplete order)
    (may : Option ℤ → Option ℤ → Result (Option ℤ) E → Type 0) (items others : Ranges K) where
  -- where a pass ends, and where it stops, for what holds of two lists
  pub record Tells (R : Type 0) : Type 0 where
    pub ends : (new : Ranges K) → AreCombined order int_eq int_eq int_eq may items others new → R
    pub stops : (e : E) → MayFailOnBoth order may items others e → R → ⊥
    pub goes_on : MayGiveValueOnBoth order may items others → ⊥

  pub told : {M R : Type 0} (view : M → Ranges K) → Tells R
      → (r : Result M (UpdateError E)) (b : Bool) → b ≡ is_ok r
      → IfOk r (λ new. AreCombined order int_eq int_eq int_eq may items others (view new))
      → ((e : E) → r ≡ Err (Closure e) → MayFailOnBoth order may items others e)
      → (r ≡ Err Memory → MayGiveValueOnBoth order may items others) → IsTrue b ↔ R
  told view tells (Ok new) b is ended fails gives = (λ so. tells.ends (view new) ended, λ so. is)
  told view tells (Err (Closure e)) b is ended fails gives =
      (λ so. absurd cc, λ so. absurd (tells.stops e (fails e refl) so))
  told view tells (Err Memory) b is ended fails gives = absurd (tells.goes_on (gives refl))

  module _ (finds : (left right : Option ℤ) (found : Result (Option ℤ) E) → may left right found
      → FindsAlone left right found) where
    pub subset_tells : Tells (BindKeysOf order items others)
    subset_tells = record {
      ends = λ new combined k key bound. grind (arith, is_bound, finds, combined.held k key);
      stops = λ e fails all.
          let at =
          shared_part_has_key order lawful items others _ _ _ complete fails.is_piece.part in
          let found = finds fails.left fails.right (Err e) fails.says in
          grind (arith, all at.0 at.1);
      goes_on = λ gives. grind (arith, finds);
    }

  module _ (finds : (left right : Option ℤ) (found : Result (Option ℤ) E) → may left right found
      → FindsShared left right found) where
    pub apart_tells : Tells (ShareNoKey order items others)
    apart_tells = record {
      ends = λ new combined k key bound. grind (arith, finds, combined.held k key);
      stops = λ e fails none.
          let at =
          shared_part_has_key order lawful items others _ _ _ complete fails.is_piece.part in
          let found = finds fails.left fails.right (Err e) fails.says in
          grind (arith, none at.0 at.1);
      goes_on = λ gives. grind (arith, finds);
    }
