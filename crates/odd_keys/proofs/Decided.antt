-- What the last command on a key allows, where more is allowed of a closure and of what was bound
-- before.
use Rattle.std.proofs.Common.{◌≡◌, ◌⊎◌, Bool, IsTrue, List, [], ◌∷◌, inl, inr, refl, ◌∙◌, sym}
use Rattle.std.specs.Prelude.{Option, Some, None, Result, Ok, Err, IfOk}
use Rattle.std.specs.Cmp.{IsEquivalence}
use Rattle.btree_range_map.specs.AnyRange.{AnyRange}
use Rattle.btree_range_map.specs.Bindings.{Binds, BindsTo}
use Rattle.btree_range_map.specs.Command.{Command}
use Rattle.btree_range_map.specs.Command.TheVariants.{Insert, InsertDisconnected, Remove, Update, Get, Contains, Intersects, Count}
use Rattle.btree_range_map.specs.History.{BindAfter, BindOver, IsBoundBy}
use Rattle.btree_range_map.specs.Item.{Item}
use Rattle.btree_range_map.specs.Order.{KeyOrder}
use Rattle.btree_range_map.specs.Reply.{Reply}

module _ {K : Type 0} (order : KeyOrder K) {V : Type 0} (same : V → V → Bool) (k : K) where
  pub free_of_empty : (b : Option V) → Binds order same [] k b → b ≡ None
  free_of_empty None h = refl
  free_of_empty (Some v) h = absurd h

  pub binds_equal : IsEquivalence same → (items : List (Item (AnyRange K) V)) (v w : V)
      → IsTrue (same v w) → BindsTo order same items k v → BindsTo order same items k w
  binds_equal equal [] v w e h = h
  binds_equal equal (i ∷ rest) v w e (inl h) = inl (h.0, sym (equal.congr v i.value w (equal.symm v i.value ∙ h.1)) ∙ e)
  binds_equal equal (i ∷ rest) v w e (inr h) = inr (binds_equal equal rest v w e h)

  module _ {T E : Type 0} (may can : T → Option V → Result (Option V) E → Type 0)
      (wider : (t : T) (c : Option V) (a : Result (Option V) E) → may t c a → can t c a) where
    bound_by_more : (before allowed : Option V → Type 0)
        → ((c : Option V) → before c → allowed c)
        → (command : Command K V T) (b : Option V)
        → IsBoundBy order same may k before command b
        → IsBoundBy order same can k allowed command b
    bound_by_more before allowed more (Insert r v) b h = h
    bound_by_more before allowed more (InsertDisconnected r v) b h = h
    bound_by_more before allowed more (Remove r) b h = h
    bound_by_more before allowed more (Update r t) b h =
        (h.0, more h.0 h.1, (h.2.0, wider t h.0 (Ok h.2.0) h.2.1, h.2.2))
    bound_by_more before allowed more (Get q) b h = more b h
    bound_by_more before allowed more (Contains q) b h = more b h
    bound_by_more before allowed more (Intersects r) b h = more b h
    bound_by_more before allowed more Count b h = more b h

    bind_after_more : (before allowed : Option V → Type 0)
        → ((c : Option V) → before c → allowed c)
        → (command : Command K V T) (reply : Reply K V E) (b : Option V)
        → BindAfter order same may k before command reply b
        → BindAfter order same can k allowed command reply b
    bind_after_more before allowed more command reply b h = record {
      on = λ on unrefused. bound_by_more before allowed more command b (h.on on unrefused);
      other = λ out. more b (h.other out);
      refused = λ refusal. more b (h.refused refusal);
    }

    pub bind_over_more : (before allowed : Option V → Type 0)
        → ((c : Option V) → before c → allowed c)
        → (commands : List (Command K V T)) (replies : List (Reply K V E)) (b : Option V)
        → BindOver order same may k before commands replies b
        → BindOver order same can k allowed commands replies b
    bind_over_more before allowed more [] replies b h = more b h
    bind_over_more before allowed more (c ∷ commands) [] b h = more b h
    bind_over_more before allowed more (c ∷ commands) (r ∷ replies) b h =
        bind_over_more (BindAfter order same may k before c r) (BindAfter order same can k allowed c r)
        (bind_after_more before allowed more c r) commands replies b h
