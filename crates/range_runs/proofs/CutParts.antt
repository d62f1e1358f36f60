-- What is left of an item that a range cuts, by places.
use Rattle.range_runs.proofs.Common.{arith, common_steps, same_itself, ◌≡◌, refl, sym, ◌∙◌, ◌↔◌, Some, None, false, IsTrue, Bound, Included, Excluded, Unbounded, Ordering, Equal, is_gt, is_le, tied_back, tied_itself, KeyOrder, IsLawful, start_position, end_position, position_total, AnyRange, IsBoundOfKey, IsKeyRange, flipped, SameBound, same_start, eq_le, eq_ge, le_lt_trans, lt_not_le, PLt, past, upper, flipped_bound, reaching_is_before_past, flipped_bound_is_past, flipped_known, unbounded_start, unbounded_end}
use Rattle.range_runs.proofs.Forms.{places}

module _ {K : Type 0} (order : KeyOrder K) (lawful : IsLawful order) where
  -- bounds of one kind with equal values have equal places past them
  pub same_past : (a b : Bound K) → SameBound order a b
      → places order lawful (past order (end_position order a)) (past order (end_position order b))
      ≡ Equal
  same_past bound other_bound h = grind (arith, common_steps, same_start, tied_itself, position_total)

  pub known_turned : (b : Bound K) → IsBoundOfKey order b → IsBoundOfKey order (flipped_bound b)
  known_turned bound h = grind (arith, common_steps)

  end_by : (s t b : Bound K)
      → places order lawful (past order (end_position order t)) (start_position order s) ≡ Equal
      → SameBound order t b
      → places order lawful (past order (end_position order b)) (start_position order s) ≡ Equal
  end_by s t b at h =
      sym ((position_total order.cmp lawful.total).congr (past order (end_position order t))
      (past order (end_position order b)) (start_position order s) (same_past t b h)) ∙ at

  -- the end just before a start bound that is not the first of all
  pub cut_end : (a s b : Bound K) → IsBoundOfKey order a
      → PLt lawful (start_position order a) (start_position order s)
      → SameBound order (flipped_bound s) b
      → places order lawful (past order (end_position order b)) (start_position order s) ≡ Equal
  cut_end a (Included k) b known l h = end_by (Included k) (Excluded k) b
      (flipped_bound_is_past order lawful (Excluded k) (Included k) refl) h
  cut_end a (Excluded k) b known l h = grind (arith, common_steps, end_by, flipped_bound_is_past)
  cut_end a Unbounded b known l h = grind (arith, common_steps, lt_not_le, unbounded_start)

  start_by : (e t b : Bound K)
      → places order lawful (past order (end_position order e)) (start_position order t) ≡ Equal
      → SameBound order t b
      → places order lawful (start_position order b) (past order (end_position order e)) ≡ Equal
  start_by e t b at h =
      let total = position_total order.cmp lawful.total in
      tied_back total (past order (end_position order e)) (start_position order b)
      (total.congr (past order (end_position order e)) (start_position order t)
      (start_position order b) at ∙ same_start order lawful t b h)

  -- the start just after an end bound that is not the last of all
  pub cut_start : (a e b : Bound K) → IsBoundOfKey order a
      → PLt lawful (past order (end_position order e))
      (past order (end_position order a)) → SameBound order (flipped_bound e) b
      → places order lawful (start_position order b) (past order (end_position order e)) ≡ Equal
  cut_start a (Included k) b known l h = grind (arith, common_steps, start_by, flipped_bound_is_past)
  cut_start a (Excluded k) b known l h = start_by (Excluded k) (Included k) b
      (flipped_bound_is_past order lawful (Excluded k) (Included k) refl) h
  cut_start a Unbounded b known l h = grind (arith, common_steps, lt_not_le, unbounded_end)

  pub same_turned : (b : Bound K) → SameBound order (flipped_bound b) (flipped_bound b)
  same_turned b = same_itself order lawful (flipped_bound b)

  -- nothing ends after an unbounded end
  pub ends_never : (r i : AnyRange K) → IsKeyRange order i → None ≡ flipped r.end → IsTrue false
      ↔ PLt lawful (upper order r) (upper order i)
  ends_never r i known turns = grind (arith, common_steps, lt_not_le, unbounded_end)

  pub le_is : (o : Ordering) → IsTrue (is_le o) ↔ is_gt o ≡ false
  le_is compared = grind (arith, common_steps)

  -- a range ends after another where it reaches the start just after it
  pub ends_after_is : (r i : AnyRange K) (s : Bound K) → IsKeyRange order r → IsKeyRange order i
      → Some s ≡ flipped r.end
      → IsTrue (is_le (places order lawful (start_position order s) (end_position order i.end)))
      ↔ PLt lawful (upper order r) (upper order i)
  ends_after_is r i s known others turns =
      let cmp = places order lawful in
      let at = flipped_bound_is_past order lawful r.end s (sym turns) in
      let reach = reaching_is_before_past order lawful s i.end (flipped_known order lawful r.end s
      (sym turns) known.1) others.1 in
      let test = le_is (cmp (start_position order s) (end_position order i.end)) in (
        λ h. le_lt_trans lawful _ _ _ (eq_le lawful _ _ at) (reach.0 (test.0 h)),
        λ l. test.1 (reach.1 (le_lt_trans lawful _ _ _ (eq_ge lawful _ _ at) l)),
      )
