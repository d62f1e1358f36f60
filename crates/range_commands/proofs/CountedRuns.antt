-- How many steps a run adds.
use Rattle.std.proofs.Common.{◌≡◌, refl, ℕ, ◌+◌, ◌*◌, ◌^◌, ◌<◌, ◌≤◌, Bool, List, [], ◌∷◌, ◌++◌, length, ◌⊎◌, inl, inr, ap, subst, arith, suc, zero}
use Rattle.std.specs.Prelude.{Option, Result}
use Rattle.range_keys.specs.Order.{KeyOrder}
use Rattle.range_algebra.specs.Range.{IsEmptyRange}
use Rattle.range_algebra.specs.declared.any.AnyRange.{AnyRange}
use Rattle.range_algebra.proofs.Pieces.{empty_or_not}
use Rattle.range_tree.specs.Depth.{HasLevels}
use Rattle.range_tree.specs.Holding.{box_items}
use Rattle.range_tree.specs.declared.btree.BoxStorage.{BoxStorage}
use Rattle.range_nodes.specs.declared.nodes.TheConstants.{CAPACITY}
use Rattle.range_tree.specs.declared.btree.searching.TheConstants.{MAX_ASKS}
use Rattle.range_store.specs.declared.storage.Item.{Item}
use Rattle.range_edit.specs.Costs.{TakesAtLeast, TakesAsChange, IsGreatestLevel}
use Rattle.range_commands.specs.CountedRuns.{HasNoMemory, IsDone, ChangeTakes, LookupTakes, TakesFor, IsDue, IsRunOfDue, IsCountedRun}
use Rattle.range_commands.specs.Runs.{IsStep, AreSteps, HasNoUpdate}
use Rattle.range_commands.specs.declared.command.Command.{Command}
use Rattle.range_commands.specs.declared.command.Command.TheVariants.{Insert, InsertDisconnected, Remove, Update, Get, Contains, Intersects, Count}
use Rattle.range_commands.specs.declared.command.Reply.{Reply}
use Rattle.range_commands.specs.declared.command.Reply.TheVariants.{Done, Memory, Connected, Value, Truth, Count as Counted}
use Rattle.range_commands.proofs.FewRanges.{two_more}

some_or_not : (n : ℕ) → (0 < n) ⊎ (¬ (0 < n))
some_or_not zero = inr (λ h. absurd (omega (arith, h)))
some_or_not (suc n) = inl (omega arith)

done_or_not : {K V E : Type 0} (reply : Reply K V E) → IsDone reply ⊎ (¬ IsDone reply)
done_or_not Done = inl tt
done_or_not reply = inr (λ no. no)

both_or_not : {A B : Type 0} → A ⊎ (¬ A) → B ⊎ (¬ B) → (A × B) ⊎ (¬ (A × B))
both_or_not (inl a) (inl b) = inl (a, b)
both_or_not (inl a) (inr other) = inr (λ both. other both.1)
both_or_not (inr other) b = inr (λ both. other both.0)

-- the range is nonempty and the list is not empty, or not
range_or_not : {K V : Type 0} (order : KeyOrder K) (items : List (Item (AnyRange K) V))
    (r : AnyRange K) → ((¬ IsEmptyRange order r) × (0 < length items)) ⊎
    (¬ ((¬ IsEmptyRange order r) × (0 < length items)))
range_or_not order items r =
    both_or_not (elim (empty_or_not order r) [
      | inl empty ↦ inr (λ full. full empty)
      | inr full ↦ inl full
    ]) (some_or_not (length items))

change_or_not : {K V E : Type 0} (order : KeyOrder K) (items : List (Item (AnyRange K) V))
    (r : AnyRange K) (reply : Reply K V E)
    → (IsDone reply × (¬ IsEmptyRange order r) × (0 < length items)) ⊎
    (¬ (IsDone reply × (¬ IsEmptyRange order r) × (0 < length items)))
change_or_not order items r reply =
    elim (both_or_not (done_or_not reply) (range_or_not order items r)) [
      | inl due ↦ inl (due.0, due.1.0, due.1.1)
      | inr no_change ↦ inr (λ due. no_change (due.0, (due.1, due.2)))
    ]

-- what takes its least steps where its range is not empty, and none where it is
due_least : (many least before after : ℕ) (empty : Type 0) → (0 < many → 1 ≤ least)
    → empty ⊎ (¬ empty) → ((¬ empty) → TakesAtLeast before after least)
    → (empty → after ≡ before)
    → (TakesAtLeast before after 0) × ((¬ empty) × (0 < many) → TakesAtLeast before after 1)
due_least many least before after empty some either full none = (
  elim either [
    | inl is ↦ omega (arith, none is)
    | inr is_not ↦ omega (arith, full is_not)
  ],
  λ due. omega (arith, full due.0, some due.1),
)

module _ {K : Type 0} (order : KeyOrder K) {V : Type 0} where
  module _ {T E : Type 0} where
    -- one command: the count never falls, and grows by one at least where a step is due
    one_least : (least most : ℕ) (items next : List (Item (AnyRange K) V)) (command : Command K V T)
        (reply : Reply K V E) (before after : ℕ) → (0 < length items → 1 ≤ least)
        → TakesFor order least most items command reply next before after
        → (TakesAtLeast before after 0)
        × (IsDue order items command reply → TakesAtLeast before after 1)
    one_least least most items next (Insert r v) reply before after some takes = let h =
        due_least (length items) least before after (IsEmptyRange order r) some
        (empty_or_not order r) takes.at_least takes.none in (h.0, λ due. h.1 (due.1, due.2))
    one_least least most items next (Remove r) reply before after some takes = let h =
        due_least (length items) least before after (IsEmptyRange order r) some
        (empty_or_not order r) takes.at_least takes.none in (h.0, λ due. h.1 (due.1, due.2))
    one_least least most items next (Get k) reply before after some takes = let h =
        due_least (length items) least before after ⊥ some (inr (λ no. no))
        (λ full. (takes.counted full).at_least) takes.none in (h.0, λ due. h.1 (λ no. no, due))
    one_least least most items next (Contains k) reply before after some takes = let h =
        due_least (length items) least before after ⊥ some (inr (λ no. no))
        (λ full. (takes.counted full).at_least) takes.none in (h.0, λ due. h.1 (λ no. no, due))
    one_least least most items next (Intersects r) reply before after some takes =
        due_least (length items) least before after (IsEmptyRange order r) some
        (empty_or_not order r) (λ full. (takes.counted full).at_least) takes.none
    one_least least most items next command reply before after some takes =
        (omega (arith, takes), λ due. absurd due)

    due_or_not : (items : List (Item (AnyRange K) V)) (command : Command K V T)
        (reply : Reply K V E)
        → IsDue order items command reply ⊎ (¬ IsDue order items command reply)
    due_or_not items (Insert r v) reply = change_or_not order items r reply
    due_or_not items (Remove r) reply = change_or_not order items r reply
    due_or_not items (Get k) reply = some_or_not (length items)
    due_or_not items (Contains k) reply = some_or_not (length items)
    due_or_not items (Intersects r) reply = range_or_not order items r
    due_or_not items command reply = inr (λ no. no)

  module _ (same : V → V → Bool) {T E : Type 0}
      (may : T → Option V → Result (Option V) E → Type 0) where
    -- what one command takes at most, where it is no update and finds memory
    one_most : (least most : ℕ) (items next : List (Item (AnyRange K) V)) (command : Command K V T)
        (commands : List (Command K V T)) (reply : Reply K V E) (replies : List (Reply K V E))
        (before after : ℕ) → IsStep order same may items command reply next
        → TakesFor order least most items command reply next before after
        → HasNoUpdate (command ∷ commands) → HasNoMemory (reply ∷ replies)
        → TakesAsChange before after most (length items) (length next) × HasNoMemory replies
    one_most least most items next (Insert r v) commands Done replies before after step takes none
        memory = (takes.at_most tt, memory)
    one_most least most items next (Remove r) commands Done replies before after step takes none
        memory = (takes.at_most tt, memory)
    one_most least most items next (InsertDisconnected r v) commands Done replies before after step
        takes none memory = (omega (arith, takes, step.1.few), memory)
    one_most least most items next (InsertDisconnected r v) commands (Connected s w) replies before
        after step takes none memory = (omega (arith, takes, ap length step.3), memory)
    one_most least most items next (Update r t) commands reply replies before after step takes none
        memory = absurd none
    one_most least most items next (Get k) commands (Value b) replies before after step takes none
        memory = (omega (arith, (takes.counted (λ no. no)).at_most, ap length step.1), memory)
    one_most least most items next (Contains k) commands (Truth b) replies before after step takes
        none memory =
        (omega (arith, (takes.counted (λ no. no)).at_most, ap length step.1), memory)
    one_most least most items next (Intersects r) commands (Truth b) replies before after step takes
        none memory = (
          elim (empty_or_not order r) [
            | inl empty ↦ omega (arith, takes.none empty, ap length step.1)
            | inr full ↦ omega (arith, (takes.counted full).at_most, ap length step.1)
          ],
          memory,
        )
    one_most least most items next Count commands (Counted n) replies before after step takes none
        memory = (omega (arith, takes, ap length step.1), memory)
    one_most least most items next command commands Memory replies before after step takes none
        memory = absurd memory
    one_most least most items next command commands reply replies before after step takes none
        memory = absurd step

    module _ {S : Type 0} (items : S → List (Item (AnyRange K) V)) (least most : S → ℕ) where
      -- a run that goes one step on
      pub one_more_counted : (s middle last : S) (commands : List (Command K V T))
          (replies : List (Reply K V E)) (command : Command K V T) (reply : Reply K V E)
          (before between after : ℕ)
          → IsCountedRun order same may items least most s commands replies middle before between
          → IsStep order same may (items middle) command reply (items last)
          → TakesFor order (least middle) (most middle) (items middle) command reply
          (items last) between after
          → IsCountedRun order same may items least most s (commands ++ command ∷ [])
          (replies ++ reply ∷ []) last before after
      one_more_counted s middle last [] [] command reply before between after run step takes =
          (last, after, rw run.0 at step, rw (run.0, run.1) at takes, (refl, refl))
      one_more_counted s middle last (c ∷ commands)
          (r ∷ replies) command reply before between after run step takes = (
            run.0,
            run.1,
            run.2,
            run.3,
            one_more_counted run.0 middle last commands replies command reply run.1 between after
                run.4 step takes,
          )
      one_more_counted s middle last commands replies command reply before between after run step
          takes = absurd run

      -- the same run without its counts
      pub uncounted : (s last : S) (commands : List (Command K V T)) (replies : List (Reply K V E))
          (before after : ℕ)
          → IsCountedRun order same may items least most s commands replies last before after
          → AreSteps order same may (items s) commands replies (items last)
      uncounted s last [] [] before after run = ap items run.0
      uncounted s last (c ∷ commands) (r ∷ replies) before after run =
          (items run.0, run.2, uncounted run.0 last commands replies run.1 after run.4)
      uncounted s last commands replies before after run = absurd run

      -- at most so many steps: what each adds, beside what it leaves fewer, is bounded by the
      -- greatest search
      pub run_most : (level many : ℕ)
          → ((s : S) → length (items s) ≤ many → most s ≤ MAX_ASKS * level)
          → (s last : S) (commands : List (Command K V T)) (replies : List (Reply K V E))
          (before after : ℕ) → length (items s) + 2 * length commands ≤ many → HasNoUpdate commands
          → HasNoMemory replies
          → IsCountedRun order same may items least most s commands replies last before after
          → after + 2 * length (items last)
          ≤ before + length commands * (2 * MAX_ASKS * level + 10) + 2 * length (items s)
      run_most level many few s last [] [] before after within none memory run =
          omega (arith, ap (λ t. length (items t)) run.0, run.1)
      run_most level many few s last (c ∷ commands)
          (r ∷ replies) before after within none memory run =
          let first =
          one_most (least s) (most s) (items s)
          (items run.0) c commands r replies before run.1 run.2 run.3 none memory in
          let grown = two_more order same may (items s) (items run.0) c commands r run.2 none in
          let rest =
          run_most level many few run.0 last commands replies run.1 after
          (omega (arith, within, grown.0)) grown.1 first.1 run.4 in
          let here = few s (omega (arith, within)) in
          omega (arith, first.0, rest, here)
      run_most level many few s last commands replies before after within none memory run =
          absurd run

      -- at least one step for each command that is due one
      pub run_least : ((s : S) → 0 < length (items s) → 1 ≤ least s)
          → (s last : S) (commands : List (Command K V T)) (replies : List (Reply K V E))
          (before after : ℕ)
          → IsCountedRun order same may items least most s commands replies last before after
          → (due : ℕ) × IsRunOfDue order same may (items s) commands replies (items last) due
          × TakesAtLeast before after due
      run_least some s last [] [] before after run =
          (0, (ap items run.0, refl), omega (arith, run.1))
      run_least some s last (c ∷ commands) (r ∷ replies) before after run =
          let rest = run_least some run.0 last commands replies run.1 after run.4 in
          let one =
          one_least (least s) (most s) (items s) (items run.0) c r before run.1
          (some s) run.3 in
          elim (due_or_not (items s) c r) [
            | inl due ↦ (
              rest.0 + 1,
              (items run.0, rest.0, run.2, inl (due, refl), rest.1),
              omega (arith, one.1 due, rest.2),
            )
            | inr not_due ↦ (
              rest.0,
              (items run.0, rest.0, run.2, inr (not_due, refl), rest.1),
              omega (arith, one.0, rest.2),
            )
          ]
      run_least some s last commands replies before after run = absurd run

module _ {X : Type 0} where
  -- a tree has as many levels as so many items may have
  depth : (s : BoxStorage X) → HasLevels (length (box_items s)) s.levels
  depth s = subst (λ many. HasLevels many s.levels) s.counted s.levelled

  -- how often a search of a tree asks that has at most so many items
  pub few_asks : (many level : ℕ) → IsGreatestLevel (many + 1) level → (s : BoxStorage X)
      → length (box_items s) ≤ many → MAX_ASKS * s.levels ≤ MAX_ASKS * level
  few_asks many level greatest s within =
      elim (some_or_not (length (box_items s))) [
        | inl some ↦ elim (some_or_not s.levels) [
          | inl high ↦
              omega (
                arith,
                greatest.greatest s.levels (omega (arith, high))
                    (omega (arith, (depth s).least some, within)),
              )
          | inr none ↦ omega (arith, none)
        ]
        | inr none ↦ omega (arith, (depth s).empty (omega (arith, none)))
      ]

  pub some_asks : (s : BoxStorage X) → 0 < length (box_items s) → 1 ≤ s.levels
  some_asks s some =
      elim (some_or_not s.levels) [
        | inl high ↦ high
        | inr none ↦
            let flat : s.levels ≡ 0 = omega (arith, none) in
            let one : (CAPACITY + 1) ^ s.levels ≡ 1 = ap (λ m. (CAPACITY + 1) ^ m) flat in absurd
            (omega (arith, (depth s).most some, one, some))
      ]
