-- That what a change puts in the place of a range is spelled as what it replaces.
use Rattle.range_edit.proofs.Common.{common_steps, ◌≡◌, BorderSide, IsBorderShape, left_side, right_side, with_start, with_end, sym, ap, subst, ◌∙◌, ℕ, ◌+◌, ◌-◌, ◌<◌, arith, Option, Some, Bool, List, ◌∷◌, ◌++◌, inl, inr, length, get_or, take, drop, IsEquivalence, Every, Bound, KeyOrder, IsLawful, AnyRange, same_itself, lower, upper, lt_le, eq_le, lt_not_le, lt_trans, PLt, IsKeyRange, every_weaker, every_append, every_left, every_right, list_is_take_and_drop, reaching_is_before_past, Item, IsInserted, IsRemoved, seam_border, flipped_bound, IsStartOf, IsEndOf, AreEnds, IsSpliceFrame, IsSurrounded, with_first_start, with_last_end, IsStartAsIn, IsEndAsIn, IsSpelledAsIn, KeepsSpelling, IsStored, item_lower, option_items, Window}
use Rattle.std.proofs.lemmas.Option.{same_Some}
use Rattle.range_edit.specs.declared.reach.Ends.{Ends}
use Rattle.range_runs.proofs.RangePieces.{any_use, item_at}
use Rattle.range_runs.proofs.ItemPlaces.{listed_at, from_item}
use Rattle.range_runs.proofs.Extents.{past_le, end_le}
use Rattle.range_runs.proofs.Forms.{Known, Chained, stored_chain, nonempty_good}
use Rattle.range_runs.proofs.Spelling.{StartSide, EndSide, own_spelling, common_is_kept, within_is_kept, cut_end_is_kept, cut_start_is_kept}
use Rattle.range_edit.proofs.OuterBounds.{every_started, every_ended}
use Rattle.range_edit.proofs.SidePlans.{IsPlan}

module _ {K : Type 0} {order : KeyOrder K} (lawful : IsLawful order) {V : Type 0}
    {same : V → V → Bool} (equal : IsEquivalence same) {items : List (Item (AnyRange K) V)}
    (stored : IsStored order same items) where
  known : Known order lawful same equal items
  known = stored.known

  chain : Chained order lawful same equal items
  chain = stored_chain order lawful same equal items stored

  abbrev IsSpelled : Item (AnyRange K) V → Type 0
  IsSpelled j = IsSpelledAsIn order items j.key

  pub list_keeps_spelling : KeepsSpelling order items items
  list_keeps_spelling = own_spelling lawful equal items known chain

  one_is_spelled : (k : ℕ) (x : Item (AnyRange K) V) → k < length items
      → x ≡ get_or items k x → IsSpelled x
  one_is_spelled k x within read = item_at IsSpelled items k x list_keeps_spelling within read

  -- what the borders leave of the items beside a range, and the bounds that they give away
  module _ {P : Type 0} {is_good : P → Type 0} {rank : P → ℕ} {r : AnyRange K} {ends : Ends P}
      {place : ℕ} (found : AreEnds order same is_good rank items r ends place)
      (in_range : (p : P) → is_good p → rank p < length items) where
    border_spelled : (side : BorderSide K V) (As : Bound K → Type 0)
        → ((x : Item (AnyRange K) V) → IsSpelled x → As (side.outer x)) → (joined reaching : Option P)
        (b : Bound K) (low high : ℕ) (rest : Option (Item (AnyRange K) V)) (given : Option (Bound K))
        → IsBorderShape side is_good rank items (seam_border joined reaching b) low high rest given
        → ((p : P) → reaching ≡ Some p → (x : Item (AnyRange K) V) → x ≡ get_or items (rank p) x
        → IsSpelled (side.shortened x b)) → KeepsSpelling order items (option_items rest)
        × ((c : Bound K) → given ≡ Some c → As c)
    border_spelled side As outer joined reaching b low high rest given shape cut = grind (arith, common_steps, same_Some, one_is_spelled)

    cut_before : (p : P) → ends.first ≡ Some p → (x : Item (AnyRange K) V)
        → x ≡ get_or items (rank p) x → IsSpelled (with_end x (flipped_bound r.start))
    cut_before p is x read =
        let before = rw is at found.first in
        let here : x ≡ get_or items place x = read ∙ ap (λ n. get_or items n x) before.1 in
        let within : place < length items = omega (arith, found.window.in_range, before.2) in
        let above = rw (from_item items place x within here) at found.window.above in (
          (one_is_spelled place x within here).0,
          cut_end_is_kept lawful equal items known chain (take place items)
              (drop (place + 1) items) x (listed_at items place x within here) r
              found.window.known (before.3 x here) above.0 (flipped_bound r.start)
              (same_itself order lawful (flipped_bound r.start)),
        )

    cut_after : (p : P) → ends.last ≡ Some p → (x : Item (AnyRange K) V)
        → x ≡ get_or items (rank p) x → IsSpelled (with_start x (flipped_bound r.end))
    cut_after p is x read =
        let after = rw is at found.last in
        let index : rank p ≡ place + ends.window.count - 1 = omega (arith, after.1, after.2) in
        let here : x ≡ get_or items (place + ends.window.count - 1) x =
        read ∙ ap (λ n. get_or items n x) index in
        let within = in_range p after.0 in
        let starts = subst (λ y. PLt lawful (item_lower order y) (upper order r)) (sym here)
        (found.window.meets x after.2) in (
          cut_start_is_kept lawful equal items known chain (take (rank p) items)
              (drop (rank p + 1) items) x (listed_at items (rank p) x within read) r
              found.window.known starts (after.3 x here) (flipped_bound r.end)
              (same_itself order lawful (flipped_bound r.end)),
          (one_is_spelled (rank p) x within read).1,
        )

    pub replaced_keeps_spelling : {middle : List (Item (AnyRange K) V)} (joined other : Option P)
        {from : Option P} {size : ℕ} (plan : IsPlan order same lawful equal is_good rank
        items r place ends.window.count middle ends.first ends.last
        (seam_border joined ends.first (flipped_bound r.start))
        (seam_border other ends.last (flipped_bound r.end)) from size) (new : List (Item (AnyRange K) V))
        → new ≡ take plan.left.at items ++ option_items plan.left.rest
        ++ with_last_end plan.right.finish (with_first_start plan.left.start middle)
        ++ option_items plan.right.rest ++ drop plan.right.end items
        → KeepsSpelling order items middle → KeepsSpelling order items new
    replaced_keeps_spelling {middle} joined other plan new changed kept =
        let at = plan.left.at in
        let end = plan.right.end in
        let rest = plan.left.rest in
        let start = plan.left.start in
        let beyond = plan.right.rest in
        let finish = plan.right.finish in
        let left = border_spelled left_side (IsStartAsIn order items) (λ x s. s.0) joined ends.first
        (flipped_bound r.start) at plan.left.begin rest start plan.left.shape cut_before in
        let right = border_spelled right_side (IsEndAsIn order items) (λ x s. s.1) other ends.last
        (flipped_bound r.end) plan.right.upto end beyond finish plan.right.shape cut_after in
        let front = take at items in
        let tail = drop end items in
        let before = every_left IsSpelled front (drop at items) (subst (KeepsSpelling order items)
        (list_is_take_and_drop items at) list_keeps_spelling) in
        let behind = every_right IsSpelled (take end items) tail (subst (KeepsSpelling order items)
        (list_is_take_and_drop items end) list_keeps_spelling) in
        let inside =
        every_ended IsSpelled finish (with_first_start start middle)
        (λ i b is h. (h.0, right.1 b is)) (every_started IsSpelled start middle (λ i b is h. (left.1 b is, h.1)) kept) in
        rw changed (grind (arith, common_steps))

  -- a range that one item surrounds
  module _ {P : Type 0} {is_good : P → Type 0} {rank : P → ℕ} {r : AnyRange K} {w : Window P}
      {place : ℕ} {p : P} (within : IsSurrounded order same is_good rank items r w place p)
      (x : Item (AnyRange K) V) (read : x ≡ get_or items (rank p) x) where
    here : x ≡ get_or items place x
    here = read ∙ ap (λ n. get_or items n x) within.here

    list : items ≡ take place items ++ x ∷ drop (place + 1) items
    list = listed_at items place x (omega (arith, within.window.in_range, within.one)) here

    some : PLt lawful (lower order r) (upper order r)
    some = (nonempty_good order lawful r within.window.known).0 within.window.nonempty

    starts_before_end : PLt lawful (lower order x.key) (upper order r)
    starts_before_end = lt_trans lawful _ _ _ (within.starts x here) some

    ends_after_start : PLt lawful (lower order r) (upper order x.key)
    ends_after_start = lt_trans lawful _ _ _ some (within.ends x here)

    module _ (run : List (Item (AnyRange K) V)) (all : KeepsSpelling order items run)
        (b : Bound K) where
      start_of : IsStartOf order run r b → IsStartAsIn order items b
      start_of (inl is) = rw is (common_is_kept lawful equal items known chain (take place items)
          (drop (place + 1) items) x list r within.window.known starts_before_end ends_after_start
          StartSide r.start (rw (within.starts x here) (same_itself order lawful r.start)))
      start_of (inr (inl one)) = any_use (λ i. b ≡ i.key.start) IsSpelled run one all
          (λ i is s. subst (IsStartAsIn order items) (sym is) s.0)
      start_of (inr (inr turned)) =
          cut_start_is_kept lawful equal items known chain (take place items)
          (drop (place + 1) items) x list r within.window.known starts_before_end
          (within.ends x here) b turned

      end_of : IsEndOf order run r b → IsEndAsIn order items b
      end_of (inl is) =
          let known_x = item_at (λ i. IsKeyRange order i.key) items place x known
          (omega (arith, within.window.in_range, within.one)) here in
          let ends = within.ends x here in
          rw is (within_is_kept lawful equal items known chain (take place items)
          (drop (place + 1) items) x list EndSide r.end r.end (same_itself order lawful r.end)
          (grind (arith, common_steps, reaching_is_before_past, known_x, starts_before_end, end_le, lt_le, ends))
          (λ e. absurd (lt_not_le lawful _ _ ends (past_le order lawful x.key.end r.end known_x.1
          within.window.known.1 (eq_le lawful _ _ e)))))
      end_of (inr (inl one)) = any_use (λ i. b ≡ i.key.end) IsSpelled run one all
          (λ i is s. subst (IsEndAsIn order items) (sym is) s.1)
      end_of (inr (inr turned)) = cut_end_is_kept lawful equal items known chain (take place items)
          (drop (place + 1) items) x list r within.window.known
          (within.starts x here) ends_after_start b turned

    run_keeps_spelling : {new : List (Item (AnyRange K) V)}
        {Way : List (Item (AnyRange K) V) → List (Item (AnyRange K) V) → Type 0}
        (frame : IsSpliceFrame items new Way) → Every (λ j. IsStartOf order frame.run r j.key.start
        × IsEndOf order frame.run r j.key.end) frame.others → KeepsSpelling order items new
    run_keeps_spelling frame made =
        let front = frame.front in
        let run = frame.run in
        let all = subst (KeepsSpelling order items) frame.before list_keeps_spelling in
        let left = every_left IsSpelled (front ++ run) frame.behind all in
        let met = every_right IsSpelled front run left in
        rw frame.after (every_append IsSpelled (front ++ frame.others) frame.behind
        (every_append IsSpelled front frame.others (every_left IsSpelled front run left)
        (every_weaker _ IsSpelled frame.others
        (λ j t. (start_of run met j.key.start t.0, end_of run met j.key.end t.1))
        made)) (every_right IsSpelled (front ++ run) frame.behind all))

    pub inserted_keeps_spelling : {new : List (Item (AnyRange K) V)} {v : V}
        → IsInserted order same items new r v → KeepsSpelling order items new
    inserted_keeps_spelling h = run_keeps_spelling h.frame
        (every_weaker _ _ h.frame.others (λ j t. (t.start, t.end)) h.frame.such.made)

    pub removed_keeps_spelling : {new : List (Item (AnyRange K) V)}
        → IsRemoved order same items new r → KeepsSpelling order items new
    removed_keeps_spelling h = run_keeps_spelling h.frame
        (every_weaker _ _ h.frame.others (λ j t. (t.start, t.end)) h.frame.such.made)
