use Rattle.range_bulk.proofs.Common.{◌≡◌, take, map, option_map, Every, IsKeyRange, item_of, IsSorted, last_key}
use Rattle.range_bulk.proofs.sorted.first_fault.Given as goal

abbrev pub invariant-loop-index : goal.invariant-loop-index
invariant-loop-index g l =
    let items = map (item_of g.R.AsRange.range) l.pairs in
    record {
      sorted : IsSorted g.K.MaybeBounded.order (take l.index items);
      known : Every (λ i. IsKeyRange g.K.MaybeBounded.order i.key) (take l.index items);
      last : option_map (λ r. g.R.AsRange.range r.now) l.before ≡ last_key (take l.index items);
    }
