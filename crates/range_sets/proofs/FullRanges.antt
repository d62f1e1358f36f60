-- Ranges that are known and not empty, and where their bounds lie.
use Rattle.std.proofs.Common.{◌≡◌, Option, Some, None, List, [], ◌∷◌}
use Rattle.std.specs.List.{AllByRecursion as Every}
use Rattle.std.specs.declared.cmp.Ordering.TheVariants.{Equal}
use Rattle.std.specs.declared.ops.Bound.{Bound}
use Rattle.std.specs.declared.ops.Bound.TheVariants.{Unbounded}
use Rattle.range_keys.proofs.Orderings.{equal_then_equal, not_greater}
use Rattle.range_keys.specs.Order.{KeyOrder, IsLawful}
use Rattle.range_keys.specs.Position.{start_position, end_position, position_cmp}
use Rattle.range_keys.specs.PositionOrder.{position_total}
use Rattle.range_algebra.proofs.Positions.{flipped_back, flipped_bound_is_past, flipped_known, unbounded_end}
use Rattle.range_algebra.specs.Compared.{flipped}
use Rattle.range_algebra.specs.Intervals.{Le, Lt}
use Rattle.range_algebra.specs.Orders.{both, eq_ge, le_trans}
use Rattle.range_algebra.specs.Range.{IsBoundOfKey, IsKeyRange}
use Rattle.range_algebra.specs.RangeOrder.{range_cmp}
use Rattle.range_algebra.specs.Relations.{LiesBefore}
use Rattle.range_algebra.specs.declared.any.AnyRange.{AnyRange}
use Rattle.range_store.specs.declared.storage.Item.{Item}
use Rattle.range_runs.specs.Pieces.{LiesIn}
use Rattle.range_runs.proofs.Extents.{end_le}
use Rattle.range_runs.proofs.Forms.{before_is}
use Rattle.range_reads.specs.FreeRanges.{between}
use Rattle.range_map.proofs.FreePieces.{Pairs}
use Rattle.range_bulk.proofs.Ascending.{IsAscending}

module _ {K : Type 0} (order : KeyOrder K) (lawful : IsLawful order) where
  -- the range starts at the bound or after it
  abbrev pub From : Option (Bound K) → AnyRange K → Type 0
  From None r = ⊥
  From (Some b) r =
      Le (position_cmp order.cmp) (start_position order b) (start_position order r.start)

  abbrev pub IsFull : AnyRange K → Type 0
  IsFull r =
      IsKeyRange order r
      × Le (position_cmp order.cmp) (start_position order r.start) (end_position order r.end)

  -- where the bounds are in order, their range is there
  pub between_is : (P : List (AnyRange K) → Type 0) (a b : Bound K)
      → Le (position_cmp order.cmp) (start_position order a) (end_position order b)
      → P (record { start = a; end = b } ∷ []) → P (between order (Some a) (Some b))
  between_is P a b le h = rw le h

  pub same_range : (r s : AnyRange K) → LiesIn order r s → LiesIn order s r
      → range_cmp order r s ≡ Equal
  same_range r s h k =
      let cmp = position_cmp order.cmp in
      let total = position_total order.cmp lawful.total in
      equal_then_equal _ _ (both cmp total _ _ k.starts h.starts) (both cmp total _ _ h.ends k.ends)

  -- every end is at most at that of the full range
  pub ends_full : (e : Bound K) → IsBoundOfKey order e
      → Le (position_cmp order.cmp) (end_position order e) (end_position order Unbounded)
  ends_full e known = end_le order lawful e Unbounded known tt (unbounded_end order lawful e known)

  -- an end before a start lies at most at the end that is just before it
  pub ends_before : (e s i : Bound K) → IsBoundOfKey order e → IsBoundOfKey order i
      → flipped s ≡ Some i
      → Lt (position_cmp order.cmp) (end_position order e) (start_position order s)
      → Le (position_cmp order.cmp) (end_position order e) (end_position order i)
  ends_before e s i known known_i turns l =
      let cmp = position_cmp order.cmp in
      let total = position_total order.cmp lawful.total in
      let back = flipped_back order lawful s i turns in
      let known_s = flipped_known order lawful i s back known_i in
      end_le order lawful e i known known_i
      (le_trans cmp total _ _ _ ((before_is order lawful e s known known_s).0 l)
      (eq_ge cmp total _ _ (flipped_bound_is_past order lawful i s back)))

  module _ {V : Type 0} where
    pub all_full : (items : List (Item (AnyRange K) V))
        → Every (λ i. IsKeyRange order i.key) items
        → IsAscending order items → Every (λ i. IsFull i.key) items
    all_full [] known up = tt
    all_full (i ∷ rest) known up = ((known.0, not_greater _ up.0), all_full rest known.1 up.2)

    pub ascending_pairs : (items : List (Item (AnyRange K) V)) → IsAscending order items
        → Pairs (λ i j. LiesBefore order i.key j.key) items
    ascending_pairs [] up = tt
    ascending_pairs (i ∷ rest) up = (up.1, ascending_pairs rest up.2)
