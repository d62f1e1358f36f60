-- After a run of commands a key is bound as the last unrefused one on it says: for those who know
-- that their commands are a run.
use Rattle.std.proofs.Common.{◌≡◌, Bool, List, [], ◌∷◌, Option, subst}
use Rattle.std.specs.Prelude.{Result}
use Rattle.std.specs.Cmp.{IsEquivalence}
use Rattle.range_keys.specs.Order.{KeyOrder, IsLawful}
use Rattle.range_algebra.specs.declared.any.AnyRange.{AnyRange}
use Rattle.range_store.specs.declared.storage.Item.{Item}
use Rattle.range_runs.specs.Bindings.{Binds}
use Rattle.range_commands.specs.Runs.{IsStep, AreSteps, IsUpdate}
use Rattle.range_commands.specs.History.{IsRefusal, IsOn, BindAfter, BindOver}
use Rattle.range_commands.specs.declared.command.Command.{Command}
use Rattle.range_commands.specs.declared.command.Command.TheVariants.{Insert, InsertDisconnected, Remove, Update, Get, Contains, Intersects, Count}
use Rattle.range_commands.specs.declared.command.Reply.{Reply}
use Rattle.range_commands.specs.declared.command.Reply.TheVariants.{Done, Memory, Connected, Closure, Value, Truth, Count as Counted}

module _ {K : Type 0} (order : KeyOrder K) (lawful : IsLawful order) {V : Type 0}
    (same : V → V → Bool) (equal : IsEquivalence same) {T E : Type 0}
    (may : T → Option V → Result (Option V) E → Type 0) (k : K) (key : order.is_key k) where
  module _ (items next : List (Item (AnyRange K) V)) (before : Option V → Type 0) (b : Option V)
      (was : (u : Option V) → Binds order same items k u → before u)
      (h : Binds order same next k b) where
    stays : next ≡ items → before b
    stays e = was b (subst (λ (ys : List (Item (AnyRange K) V)). Binds order same ys k b) e h)

    -- a call that leaves the list leaves the binding
    kept : (command : Command K V T) (reply : Reply K V E)
        → (IsOn order k command → ¬ IsRefusal reply → ⊥) → next ≡ items
        → BindAfter order same may k before command reply b
    kept command reply unmoved e =
        record {
          on = λ on unrefused. absurd (unmoved on unrefused);
          other = λ out. stays e;
          refused = λ refusal. stays e;
        }

    updated : (r : AnyRange K) (t : T) → IsUpdate order same (may t) items next r
        → BindAfter order same may k before (Update r t) Done b
    updated r t step = record {
      on = λ held unrefused. let now =
          step.rebound.held k key held in (
            now.old,
            was now.old now.was,
            (now.answer, now.given, (now.is b).0 h),
          );
      other = λ out. was b ((step.rebound.others k key out b).0 h);
      refused = λ no. absurd no;
    }

    one : (command : Command K V T) (reply : Reply K V E)
        → IsStep order same may items command reply next
        → BindAfter order same may k before command reply b
    one (Insert r v) Done step =
        record {
          on = λ held unrefused. (step.bound.held k key held b).0 h;
          other = λ out. was b ((step.bound.others k key out b).0 h);
          refused = λ no. absurd no;
        }
    one (Insert r v) Memory step = kept (Insert r v) Memory (λ on unrefused. unrefused tt) step.1
    one (InsertDisconnected r v) Done step =
        record {
          on = λ held unrefused. (step.1.bound.held k key held b).0 h;
          other = λ out. was b ((step.1.bound.others k key out b).0 h);
          refused = λ no. absurd no;
        }
    one (InsertDisconnected r v) Memory step =
        kept (InsertDisconnected r v) Memory (λ on unrefused. unrefused tt) step.2
    one (InsertDisconnected r v) (Connected s w) step =
        kept (InsertDisconnected r v) (Connected s w) (λ on unrefused. unrefused tt) step.3
    one (Remove r) Done step =
        record {
          on = λ held unrefused. (step.unbound.held k key held b).0 h;
          other = λ out. was b ((step.unbound.others k key out b).0 h);
          refused = λ no. absurd no;
        }
    one (Remove r) Memory step = kept (Remove r) Memory (λ on unrefused. unrefused tt) step.2
    one (Update r t) Done step = updated r t step
    one (Update r t) Memory step = kept (Update r t) Memory (λ on unrefused. unrefused tt) step.1
    one (Update r t) (Closure e) step =
        kept (Update r t) (Closure e) (λ on unrefused. unrefused tt) step.2
    one (Get q) Memory step = kept (Get q) Memory (λ no unrefused. no) step.1
    one (Get q) (Value u) step = kept (Get q) (Value u) (λ no unrefused. no) step.1
    one (Contains q) (Truth t) step = kept (Contains q) (Truth t) (λ no unrefused. no) step.1
    one (Intersects r) (Truth t) step = kept (Intersects r) (Truth t) (λ no unrefused. no) step.1
    one Count (Counted n) step = kept Count (Counted n) (λ no unrefused. no) step.1
    one command reply step = absurd step

  run_binds : (items last : List (Item (AnyRange K) V)) (before : Option V → Type 0)
      (commands : List (Command K V T)) (replies : List (Reply K V E)) (b : Option V)
      → ((u : Option V) → Binds order same items k u → before u)
      → AreSteps order same may items commands replies last → Binds order same last k b
      → BindOver order same may k before commands replies b
  run_binds items last before [] [] b was run h =
      was b (subst (λ (ys : List (Item (AnyRange K) V)). Binds order same ys k b) run h)
  run_binds items last before [] (r ∷ replies) b was run h = absurd run
  run_binds items last before (c ∷ commands) [] b was run h = absurd run
  run_binds items last before (c ∷ commands) (r ∷ replies) b was run h =
      run_binds run.0 last (BindAfter order same may k before c r) commands replies b
      (λ u h'. one items run.0 before u was h' c r run.1) run.2 h

  pub last_command_decides : (items last : List (Item (AnyRange K) V))
      (commands : List (Command K V T)) (replies : List (Reply K V E))
      → AreSteps order same may items commands replies last → (b : Option V)
      → Binds order same last k b
      → BindOver order same may k (λ u. Binds order same items k u) commands replies b
  last_command_decides items last commands replies run b =
      run_binds items last (λ u. Binds order same items k u) commands replies b (λ u was. was) run
