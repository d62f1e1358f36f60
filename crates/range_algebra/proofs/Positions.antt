-- What lies below what, by the laws of the keys.
use Rattle.std.proofs.Common.{◌≡◌, ◌↔◌, Option, Some, arith, rules}
use Rattle.std.specs.declared.ops.Bound.{Bound}
use Rattle.std.specs.declared.ops.Bound.TheVariants.{Unbounded}
use Rattle.std.specs.declared.cmp.Ordering.TheVariants.{Equal}
use Rattle.range_keys.specs.Order.{KeyOrder, IsLawful, Tells}
use Rattle.range_keys.specs.Position.{start_position, end_position, position_cmp, at_known}
use Rattle.range_keys.specs.declared.inner.position.Position.{Position}
use Rattle.range_keys.specs.declared.inner.position.Position.TheVariants.{Beside}
use Rattle.range_keys.specs.declared.inner.position.Side.TheVariants.{Before, At, After}
use Rattle.range_keys.proofs.BoundPositions.{IsStart, IsEnd, starts_lie_at_starts, ends_lie_at_ends}
use Rattle.range_algebra.specs.declared.any.AnyRange.{AnyRange}
use Rattle.range_algebra.specs.Range.{Holds, IsBoundOfKey, IsKeyRange}
use Rattle.range_algebra.specs.Compared.{flipped}
use Rattle.range_algebra.proofs.Holding.{holds_by_position}
use Rattle.range_algebra.specs.Intervals.{Le, Lt}
use Rattle.range_algebra.specs.Cuts.{past, lower, upper}

module _ {K : Type 0} (order : KeyOrder K) (lawful : IsLawful order) where
  abbrev PLe : Position K → Position K → Type 0
  PLe p q = Le (position_cmp order.cmp) p q

  abbrev PLt : Position K → Position K → Type 0
  PLt p q = Lt (position_cmp order.cmp) p q

  -- a start is at most at an end where it lies below the place past it
  start_end : (s e : Position K) → IsStart order s → IsEnd order e → PLe s e ↔ PLt s (past order e)
  unfolding IsStart IsEnd
  start_end s e h k = grind arith

  pub reaching_is_before_past : (s e : Bound K) → IsBoundOfKey order s → IsBoundOfKey order e
      → PLe (start_position order s) (end_position order e)
      ↔ PLt (start_position order s) (past order (end_position order e))
  reaching_is_before_past s e h k = grind (arith, start_end, starts_lie_at_starts, ends_lie_at_ends)

  pub key_reaches : (k : K) (e : Bound K) → order.is_key k → IsBoundOfKey order e
      → PLe (Beside k At) (end_position order e)
      ↔ PLt (Beside k At) (past order (end_position order e))
  unfolding IsStart
  key_reaches k e key h = search (rules, start_end, ends_lie_at_ends)

  flipped_by : (a p : K) (o : Option K) → Tells order o a
      → position_cmp order.cmp (at_known o (Beside p After)) (Beside a At) ≡ Equal
  flipped_by a p o t = grind arith

  flipped_told : (a : K) (o : Option K) → order.pred a ≡ o
      → position_cmp order.cmp (past order (at_known o (Beside a Before))) (Beside a At) ≡ Equal
  flipped_told a o e = grind (arith, flipped_by)

  -- the place past an end is that of the start bound just past it
  pub flipped_bound_is_past : (b i : Bound K) → flipped b ≡ Some i
      → position_cmp order.cmp (past order (end_position order b)) (start_position order i) ≡ Equal
  flipped_bound_is_past b i e = grind (arith, flipped_told)

  pub flipped_back : (b i : Bound K) → flipped b ≡ Some i → flipped i ≡ Some b
  flipped_back b i e = grind arith

  pub flipped_known : (b i : Bound K) → flipped b ≡ Some i → IsBoundOfKey order b
      → IsBoundOfKey order i
  flipped_known b i e h = grind arith

  -- an unbounded start is the least
  pub unbounded_start : (b : Bound K) → IsBoundOfKey order b
      → PLe (start_position order Unbounded) (start_position order b)
  unbounded_start b h = grind arith

  -- an unbounded end is the greatest
  pub unbounded_end : (b : Bound K) → IsBoundOfKey order b
      → PLe (past order (end_position order b)) (past order (end_position order Unbounded))
  unbounded_end b h = grind arith

  pub held_between : (r : AnyRange K) (k : K) → IsKeyRange order r → order.is_key k
      → Holds order r k ↔ (PLe (lower order r) (Beside k At) × PLt (Beside k At) (upper order r))
  held_between r k known key =
      let placed = holds_by_position order lawful r k key in
      let end = key_reaches k r.end key known.1 in
      (λ h. ((placed.0 h).0, end.0 (placed.0 h).1), λ h. placed.1 (h.0, end.1 h.1))
