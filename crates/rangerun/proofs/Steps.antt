-- A step where the closure may answer in some ways is one where it may answer in more.
use Rattle.std.proofs.Common.{arith, Bool, List, [], ◌∷◌}
use Rattle.std.specs.List.{AllByRecursion as Every}
use Rattle.std.specs.Prelude.{Option, Result, Ok, Err}
use Rattle.btree_range_map.specs.Answers.{IsAnswered, MayFail}
use Rattle.btree_range_map.specs.AnyRange.{AnyRange}
use Rattle.btree_range_map.specs.Item.{Item}
use Rattle.btree_range_map.specs.Order.{KeyOrder}
use Rattle.btree_range_map.specs.Command.{Command}
use Rattle.btree_range_map.specs.Command.TheVariants.{Insert, InsertDisconnected, Remove, Update, Get, Contains, Intersects, Count}
use Rattle.btree_range_map.specs.Reply.{Reply}
use Rattle.btree_range_map.specs.Reply.TheVariants.{Done, Memory, Connected, Closure, Value, Truth, Count as Counted}
use Rattle.btree_range_map.specs.Rebinding.{IsRebound, AreRebound}
use Rattle.btree_range_map.specs.Runs.{IsStep}

pub every_as : {A : Type 0} (P Q : A → Type 0) → ((x : A) → P x → Q x) → (xs : List A) → Every P xs
    → Every Q xs
every_as P Q follows [] held = tt
every_as P Q follows (x ∷ xs) held = (follows x held.0, every_as P Q follows xs held.1)

module _ {K : Type 0} (order : KeyOrder K) {V : Type 0} (same : V → V → Bool) where
  module _ {E : Type 0} (few many : Option V → Result (Option V) E → Type 0)
      (follows : (value : Option V) (answer : Result (Option V) E) → few value answer
      → many value answer) where
    answered_as : (items next : List (Item (AnyRange K) V)) (r : AnyRange K)
        → IsAnswered order same few items next r → IsAnswered order same many items next r
    answered_as items next r done = record {
      answers = done.answers;
      pieces = done.pieces;
      given = every_as _ _ (λ a. follows a.value (Ok a.answer)) done.answers done.given;
      held = done.held;
      others = done.others;
    }

    rebound_as : (items next : List (Item (AnyRange K) V)) (r : AnyRange K)
        → AreRebound order same few items next r → AreRebound order same many items next r
    rebound_as items next r now = grind (arith, follows)

    fails_as : (items : List (Item (AnyRange K) V)) (r : AnyRange K) (e : E)
        → MayFail order same few items r e → MayFail order same many items r e
    fails_as items r e failed =
        record {
          front = failed.front;
          piece = failed.piece;
          rest = failed.rest;
          pieces = failed.pieces;
          given = every_as _ _ (λ a. follows a.value (Ok a.answer)) failed.front failed.given;
          says = follows failed.piece.value (Err e) failed.says;
        }

  module _ {T E : Type 0} (few many : T → Option V → Result (Option V) E → Type 0)
      (follows : (tag : T) (value : Option V) (answer : Result (Option V) E) → few tag value answer
      → many tag value answer) where
    pub step_as : (items : List (Item (AnyRange K) V)) (command : Command K V T)
        (reply : Reply K V E) (next : List (Item (AnyRange K) V))
        → IsStep order same few items command reply next
        → IsStep order same many items command reply next
    step_as items (Update r t) Done next step = record {
      answered = λ some. answered_as (few t) (many t) (follows t) items next r (step.answered some);
      rebound = rebound_as (few t) (many t) (follows t) items next r step.rebound;
      canonical = step.canonical;
      empty = step.empty;
    }
    step_as items (Update r t) (Closure e) next step =
        (fails_as (few t) (many t) (follows t) items r e step.0, step.1, step.2)
    step_as items command reply next step = step
