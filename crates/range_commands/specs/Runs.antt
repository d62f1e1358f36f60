-- What a list of commands does to a stored list, one step after the other.
use Rattle.std.specs.Prelude.{◌≡◌, ◌↔◌, ◌+◌, ◌≤◌, ℕ, ⊤, Bool, IsTrue, List, [], ◌∷◌, length, Option, Result}
use Rattle.range_keys.specs.Order.{KeyOrder}
use Rattle.range_algebra.specs.declared.any.AnyRange.{AnyRange}
use Rattle.range_store.specs.declared.storage.Item.{Item}
use Rattle.range_algebra.specs.Range.{IsEmptyRange}
use Rattle.range_runs.specs.Answers.{IsAnswered, MayFail}
use Rattle.range_map.specs.Rebinding.{AreRebound}
use Rattle.range_runs.specs.Bindings.{Binds, IsBound, IsBoundAfter, IsUnboundAfter}
use Rattle.range_runs.specs.Canonical.{IsCanonical}
use Rattle.range_runs.specs.Lookups.{MeetsSome, IsConnectedToSome}
use Rattle.range_commands.specs.declared.command.Command.{Command}
use Rattle.range_commands.specs.declared.command.Command.TheVariants.{Insert, InsertDisconnected, Remove, Update, Get, Contains, Intersects, Count}
use Rattle.range_commands.specs.declared.command.Reply.{Reply}
use Rattle.range_commands.specs.declared.command.Reply.TheVariants.{Done, Memory, Connected, Closure, Value, Truth, Count as Counted}

-- none of the commands is an update
abbrev pub HasNoUpdate : {K V T : Type 0} → List (Command K V T) → Type 0
HasNoUpdate [] = ⊤
HasNoUpdate (Update r t ∷ commands) = ⊥
HasNoUpdate (command ∷ commands) = HasNoUpdate commands

module _ {K : Type 0} (order : KeyOrder K) {V : Type 0} (same : V → V → Bool) where
  -- what an insertion that was not refused makes of a list, with at most so many ranges more
  pub record IsInsertion (most : ℕ) (items next : List (Item (AnyRange K) V)) (r : AnyRange K)
      (v : V) : Type 0 where
    pub bound : IsBoundAfter order same items next r v
    pub canonical : IsCanonical order same next
    pub few : length next ≤ length items + most
    pub empty : IsEmptyRange order r → next ≡ items

  -- what a removal that was not refused makes of a list
  pub record IsRemoval (items next : List (Item (AnyRange K) V)) (r : AnyRange K) : Type 0 where
    pub unbound : IsUnboundAfter order same items next r
    pub canonical : IsCanonical order same next
    pub few : length next ≤ length items + 1
    pub empty : IsEmptyRange order r → next ≡ items
    pub unmet : ¬ MeetsSome order items r → next ≡ items

  -- the range is nonempty, and a stored one is in its way
  abbrev pub IsHindered : List (Item (AnyRange K) V) → AnyRange K → Type 0
  IsHindered items r = (¬ IsEmptyRange order r) × IsConnectedToSome order items r

  -- over what the closure may answer to a value, or to none
  module _ {E : Type 0} (may : Option V → Result (Option V) E → Type 0) where
    -- what an update that was not refused makes of a list
    pub record IsUpdate (items next : List (Item (AnyRange K) V)) (r : AnyRange K) : Type 0 where
      pub answered : ¬ IsEmptyRange order r → IsAnswered order same may items next r
      pub rebound : AreRebound order same may items next r
      pub canonical : IsCanonical order same next
      pub empty : IsEmptyRange order r → next ≡ items

  -- over what the closure may answer with each tag
  module _ {T E : Type 0} (may : T → Option V → Result (Option V) E → Type 0) where
    -- the command, the reply and the next list that fit a list: these and no others
    abbrev pub IsStep : List (Item (AnyRange K) V) → Command K V T → Reply K V E
        → List (Item (AnyRange K) V) → Type 0
    IsStep items (Insert r v) Done next = IsInsertion 2 items next r v
    IsStep items (Insert r v) Memory next = (¬ IsEmptyRange order r) × (next ≡ items)
    IsStep items (InsertDisconnected r v) Done next =
        (¬ IsHindered items r) × IsInsertion 1 items next r v
    IsStep items (InsertDisconnected r v) Memory next =
        (¬ IsEmptyRange order r) × (¬ IsConnectedToSome order items r) × (next ≡ items)
    IsStep items (InsertDisconnected r v) (Connected s w) next =
        IsHindered items r × (s ≡ r) × (w ≡ v) × (next ≡ items)
    IsStep items (Remove r) Done next = IsRemoval items next r
    IsStep items (Remove r) Memory next =
        (¬ IsEmptyRange order r) × MeetsSome order items r × (next ≡ items)
    IsStep items (Update r t) Done next = IsUpdate (may t) items next r
    IsStep items (Update r t) Memory next = (¬ IsEmptyRange order r) × (next ≡ items)
    IsStep items (Update r t) (Closure e) next =
        MayFail order same (may t) items r e × (¬ IsEmptyRange order r) × (next ≡ items)
    IsStep items (Get k) Memory next = IsBound order items k × (next ≡ items)
    IsStep items (Get k) (Value b) next = Binds order same items k b × (next ≡ items)
    IsStep items (Contains k) (Truth b) next = (IsTrue b ↔ IsBound order items k) × (next ≡ items)
    IsStep items (Intersects r) (Truth b) next =
        (IsTrue b ↔ (¬ IsEmptyRange order r) × MeetsSome order items r) × (next ≡ items)
    IsStep items Count (Counted n) next = (n ≡ length items) × (next ≡ items)
    IsStep items command reply next = ⊥

    -- one reply for each command, with a list between any two
    abbrev pub AreSteps : List (Item (AnyRange K) V) → List (Command K V T) → List (Reply K V E)
        → List (Item (AnyRange K) V) → Type 0
    AreSteps items [] [] last = last ≡ items
    AreSteps items (command ∷ commands) (reply ∷ replies) last =
        (next : List (Item (AnyRange K) V)) × IsStep items command reply next
        × AreSteps next commands replies last
    AreSteps items commands replies last = ⊥
