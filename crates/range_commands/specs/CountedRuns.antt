-- How many steps a list of commands adds, one command after the other.
use Rattle.std.specs.Prelude.{◌≡◌, ◌+◌, ◌<◌, ◌⊎◌, ℕ, ⊤, Bool, List, [], ◌∷◌, length, Option, Result}
use Rattle.range_keys.specs.Order.{KeyOrder}
use Rattle.range_algebra.specs.declared.any.AnyRange.{AnyRange}
use Rattle.range_algebra.specs.Range.{IsEmptyRange}
use Rattle.range_store.specs.Counting.{AddsSteps}
use Rattle.range_store.specs.declared.storage.Item.{Item}
use Rattle.range_edit.specs.Costs.{TakesAtLeast, TakesAsChange}
use Rattle.range_commands.specs.Runs.{IsStep}
use Rattle.range_commands.specs.declared.command.Command.{Command}
use Rattle.range_commands.specs.declared.command.Command.TheVariants.{Insert, Remove, Get, Contains, Intersects}
use Rattle.range_commands.specs.declared.command.Reply.{Reply}
use Rattle.range_commands.specs.declared.command.Reply.TheVariants.{Done, Memory}

-- none of the replies says that there was not enough memory
abbrev pub HasNoMemory : {K V E : Type 0} → List (Reply K V E) → Type 0
HasNoMemory [] = ⊤
HasNoMemory (Memory ∷ replies) = ⊥
HasNoMemory (reply ∷ replies) = HasNoMemory replies

abbrev pub IsDone : {K V E : Type 0} → Reply K V E → Type 0
IsDone Done = ⊤
IsDone reply = ⊥

-- one more where a fact holds
abbrev pub CountsOne : Type 0 → ℕ → ℕ → Type 0
CountsOne fact rest all = (fact × (all ≡ rest + 1)) ⊎ ((¬ fact) × (all ≡ rest))

module _ {K : Type 0} (order : KeyOrder K) {V : Type 0} where
  -- the steps of a change by a range, where a search asks from `least` to `most` times
  pub record ChangeTakes (least most : ℕ) (items next : List (Item (AnyRange K) V)) (r : AnyRange K)
      (done : Type 0) (before after : ℕ) : Type 0 where
    pub at_most : done → TakesAsChange before after most (length items) (length next)
    pub at_least : ¬ IsEmptyRange order r → TakesAtLeast before after least
    pub none : IsEmptyRange order r → after ≡ before

  -- the steps of a look-up by a range, which may be empty
  pub record LookupTakes (least most : ℕ) (items : List (Item (AnyRange K) V)) (empty : Type 0)
      (before after : ℕ) : Type 0 where
    pub counted : ¬ empty → AddsSteps before after least (most + 1)
    pub idle : items ≡ [] → AddsSteps before after 0 0
    pub none : empty → after ≡ before

  module _ {T E : Type 0} where
    -- the steps of one command
    abbrev pub TakesFor : ℕ → ℕ → List (Item (AnyRange K) V) → Command K V T → Reply K V E
        → List (Item (AnyRange K) V) → ℕ → ℕ → Type 0
    TakesFor least most items (Insert r v) reply next before after =
        ChangeTakes least most items next r (IsDone reply) before after
    TakesFor least most items (Remove r) reply next before after =
        ChangeTakes least most items next r (IsDone reply) before after
    TakesFor least most items (Get k) reply next before after =
        LookupTakes least most items ⊥ before after
    TakesFor least most items (Contains k) reply next before after =
        LookupTakes least most items ⊥ before after
    TakesFor least most items (Intersects r) reply next before after =
        LookupTakes least most items (IsEmptyRange order r) before after
    TakesFor least most items command reply next before after = after ≡ before

    -- a step is due: for a change that was not refused and for a look-up, where the range is
    -- nonempty and a range is stored
    abbrev pub IsDue : List (Item (AnyRange K) V) → Command K V T → Reply K V E → Type 0
    IsDue items (Insert r v) reply = IsDone reply × (¬ IsEmptyRange order r) × (0 < length items)
    IsDue items (Remove r) reply = IsDone reply × (¬ IsEmptyRange order r) × (0 < length items)
    IsDue items (Get k) reply = 0 < length items
    IsDue items (Contains k) reply = 0 < length items
    IsDue items (Intersects r) reply = (¬ IsEmptyRange order r) × (0 < length items)
    IsDue items command reply = ⊥

  module _ (same : V → V → Bool) {T E : Type 0}
      (may : T → Option V → Result (Option V) E → Type 0) where
    -- a run of commands, of which so many are due a step
    abbrev pub IsRunOfDue : List (Item (AnyRange K) V) → List (Command K V T) → List (Reply K V E)
        → List (Item (AnyRange K) V) → ℕ → Type 0
    IsRunOfDue items [] [] last due = (last ≡ items) × (due ≡ 0)
    IsRunOfDue items (command ∷ commands) (reply ∷ replies) last due =
        (next : List (Item (AnyRange K) V)) × (rest : ℕ)
        × IsStep order same may items command reply next
        × CountsOne (IsDue items command reply) rest due
        × IsRunOfDue next commands replies last rest
    IsRunOfDue items commands replies last due = ⊥

    -- a run of commands on a container, with the count after each
    module _ {S : Type 0} (items : S → List (Item (AnyRange K) V)) (least most : S → ℕ) where
      abbrev pub IsCountedRun : S → List (Command K V T) → List (Reply K V E) → S → ℕ → ℕ → Type 0
      IsCountedRun s [] [] last before after = (last ≡ s) × (after ≡ before)
      IsCountedRun s (command ∷ commands) (reply ∷ replies) last before after =
          (next : S) × (between : ℕ) × IsStep order same may (items s) command reply (items next)
          × TakesFor (least s) (most s) (items s) command reply (items next) before between
          × IsCountedRun next commands replies last between after
      IsCountedRun s commands replies last before after = ⊥
