-- The ends of ranges and the places past them lie in the same order.
use Rattle.range_runs.proofs.Common.{arith, common_steps, ◌≡◌, refl, Option, Some, None, false, Bound, Less, is_gt, KeyOrder, IsLawful, end_position, position_cmp, at_known, Position, MinusInfinity, Beside, PlusInfinity, Before, At, After, less_unless_greater, less_unless_equal, less_unless_less, less_then_any, IsBoundOfKey, flipped, Le, Lt, eq_le, eq_ge, le_trans, lt_not_le, not_lt, le_lt_trans, past, reaching_is_before_past, flipped_bound_is_past, flipped_known, unbounded_end}
use Rattle.range_keys.proofs.BoundPositions.{IsEnd, ends_lie_at_ends}
use Rattle.range_algebra.specs.Orders

module _ {K : Type 0} (order : KeyOrder K) (lawful : IsLawful order) where
  abbrev PLe : Position K → Position K → Type 0
  PLe p q = Le (position_cmp order.cmp) p q

  abbrev PLt : Position K → Position K → Type 0
  PLt p q = Lt (position_cmp order.cmp) p q

  -- an end that is at most another lies before it past its place too
  past_turned : (e f i : Bound K) → flipped f ≡ Some i → IsBoundOfKey order e
      → IsBoundOfKey order f → PLe (end_position order e) (end_position order f)
      → PLe (past order (end_position order e)) (past order (end_position order f))
  past_turned e f i turns known known' le =
      let at = flipped_bound_is_past order lawful f i turns in
      let start = flipped_known order lawful f i turns known' in
      let pe = past order (end_position order e) in
      let pf = past order (end_position order f) in
      not_lt lawful pe pf (λ l.
      let under = le_lt_trans lawful _ _ _ (eq_ge lawful _ _ at) l in
      let reached = (reaching_is_before_past order lawful i e start known).1 under in
      let over = (reaching_is_before_past order lawful i f start known').0
      (le_trans lawful _ _ _ reached le) in
      lt_not_le lawful _ _ over (eq_le lawful _ _ at))

  pub past_le : (e f : Bound K) → IsBoundOfKey order e → IsBoundOfKey order f
      → PLe (end_position order e) (end_position order f)
      → PLe (past order (end_position order e)) (past order (end_position order f))
  past_le e bound known known' le = grind (arith, common_steps, past_turned, unbounded_end)

  next_below : (a b d : K) → order.succ a ≡ Some d → order.is_key b → order.pred b ≡ None
      → order.cmp a b ≡ Less → order.cmp d b ≡ Less
  next_below a b d next key first l =
      let le = lawful.none_between a d b next key l in
      Orders.not_le order.cmp lawful.total d b
      (λ over.
      let tells = lawful.succ_pred a d next in
      let alike = lawful.pred_congr d b (Orders.both order.cmp lawful.total d b le over) in
      grind (arith, common_steps))

  at_before : (a b : K) (o : Option K) → order.succ a ≡ o → order.is_key b → order.pred b ≡ None
      → order.cmp a b ≡ Less → PLt (at_known o (Beside a After)) (Beside b At)
  at_before a b option next key first l = grind (arith, common_steps, less_then_any, next_below)

  at_at : (a b : K) (o p : Option K) → order.succ a ≡ o → order.succ b ≡ p → order.is_key a
      → order.is_key b → order.cmp a b ≡ Less
      → PLt (at_known o (Beside a After)) (at_known p (Beside b After))
  at_at a b option other_option next next' key key' l = grind (arith, common_steps, less_then_any, less_unless_less)

  before_at : (a b : K) (p : Option K) → order.succ b ≡ p → is_gt (order.cmp a b) ≡ false
      → PLt (Beside a At) (at_known p (Beside b After))
  before_at a b option next le = grind (arith, common_steps, less_unless_less, less_then_any, le_lt_trans)

  past_lt : (e f : Position K) → IsEnd order e → IsEnd order f → PLt e f
      → PLt (past order e) (past order f)
  unfolding IsEnd
  past_lt (Beside a Before) (Beside b Before) h k l = grind (arith, common_steps, less_then_any, less_unless_equal)
  past_lt (Beside a Before) (Beside b At) h k l = grind (arith, common_steps, before_at, less_unless_less)
  past_lt (Beside a Before) PlusInfinity h k l = refl
  past_lt (Beside a At) (Beside b Before) h k l = grind (arith, common_steps, at_before, less_unless_greater)
  past_lt (Beside a At) (Beside b At) h k l = grind (arith, common_steps, at_at, less_unless_equal)
  past_lt (Beside a At) PlusInfinity h k l = grind (arith, common_steps)
  past_lt PlusInfinity f h k l = grind (arith, common_steps)
  past_lt MinusInfinity f h k l = absurd h
  past_lt (Beside a After) f h k l = absurd h
  past_lt (Beside a Before) (Beside b After) h k l = absurd k
  past_lt (Beside a Before) MinusInfinity h k l = absurd k
  past_lt (Beside a At) (Beside b After) h k l = absurd k
  past_lt (Beside a At) MinusInfinity h k l = absurd k

  pub end_le : (e f : Bound K) → IsBoundOfKey order e → IsBoundOfKey order f
      → PLe (past order (end_position order e)) (past order (end_position order f))
      → PLe (end_position order e) (end_position order f)
  end_le e f known known' le = grind (arith, common_steps, not_lt, lt_not_le, past_lt, ends_lie_at_ends)
