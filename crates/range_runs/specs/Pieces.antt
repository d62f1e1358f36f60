-- The parts of a range that the items of a list bind, and those that they leave free.
use Rattle.std.specs.Prelude.{◌≡◌, if◌then◌else◌}
use Rattle.range_runs.specs.Common.{Every, List, Option, Some, None, Equal, KeyOrder, start_position, end_position, position_cmp, Position, Le, Any, IsKeyRange, IsEmptyRange, AnyRange, Item, LiesBefore}
use Rattle.std.specs.Ordering.{is_gt}
use Rattle.range_algebra.specs.RangeOrder.{range_cmp}
use Rattle.range_runs.specs.Neighbours.{EachNext}
use Rattle.range_runs.specs.Lookups.{Overlap}

module _ {K : Type 0} (order : KeyOrder K) where
  abbrev pub later : Position K → Position K → Position K
  later p q = if is_gt (position_cmp order.cmp p q) then p else q

  abbrev pub earlier : Position K → Position K → Position K
  earlier p q = if is_gt (position_cmp order.cmp p q) then q else p

  -- the range starts at the later start and ends at the earlier end of two others
  pub record IsCommonPart (r s part : AnyRange K) : Type 0 where
    pub starts : position_cmp order.cmp (start_position order part.start)
        (later (start_position order r.start) (start_position order s.start)) ≡ Equal
    pub ends : position_cmp order.cmp (end_position order part.end)
        (earlier (end_position order r.end) (end_position order s.end)) ≡ Equal

  -- the one neither starts before the other nor ends after it
  pub record LiesIn (part r : AnyRange K) : Type 0 where
    pub starts : Le (position_cmp order.cmp) (start_position order r.start)
        (start_position order part.start)
    pub ends : Le (position_cmp order.cmp) (end_position order part.end) (end_position order r.end)

  module _ {V : Type 0} (items : List (Item (AnyRange K) V)) (r : AnyRange K) where
    -- a nonempty range within r that meets no item
    pub record IsFreePart (part : AnyRange K) : Type 0 where
      pub known : IsKeyRange order part
      pub nonempty : ¬ IsEmptyRange order part
      pub within : LiesIn part r
      pub free : Every (λ i. ¬ Overlap order i.key part) items

    -- a part of r with the value of the item that it is a part of, or a free one that is as wide as
    -- it goes
    abbrev pub IsPiece : AnyRange K → Option V → Type 0
    IsPiece part (Some v) =
        (¬ IsEmptyRange order part) × Any (λ i. IsCommonPart r i.key part × (i.value ≡ v)) items
    IsPiece part None =
        IsFreePart part
        × ((other : AnyRange K) → IsFreePart other → LiesIn part other → LiesIn other part)

    -- all pieces, each before the next
    pub record ArePieces (pieces : List (Item (AnyRange K) (Option V))) : Type 0 where
      pub each : Every (λ p. IsPiece p.key p.value) pieces
      pub rising : EachNext (λ p q. LiesBefore order p.key q.key) pieces
      pub all : (part : AnyRange K) (binding : Option V) → IsKeyRange order part
          → IsPiece part binding
          → Any (λ p. (range_cmp order p.key part ≡ Equal) × (p.value ≡ binding)) pieces
