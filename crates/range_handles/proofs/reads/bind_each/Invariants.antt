use Rattle.std.proofs.Common.{◌≡◌, ◌≤◌, ◌-◌, ℕ, take, drop, length, nat_eq}
use Rattle.std.specs.List.{AllZip}
use Rattle.btree_range_map.specs.Bindings.{Binds}
use Rattle.btree_range_map.specs.Holding.{box_items}
use Rattle.range_ffi.specs.Bindings.{binding_value}
use Rattle.range_handles.proofs.reads.bind_each.Given as goal

abbrev pub invariant-loop-count : goal.invariant-loop-count
invariant-loop-count g l =
    record {
      bound : AllZip
          (λ key b. Binds g.K.MaybeBounded.order nat_eq (box_items l.stored) key (binding_value b))
          (take l.count l.keys) (take l.count l.bindings);
      rest : (n : ℕ) → l.count ≤ n → drop n l.bindings ≡ drop n l.initial.bindings;
      within : l.count ≤ length l.keys;
      same : length l.bindings ≡ length l.initial.bindings;
    }

abbrev pub decreases-loop-count : goal.decreases-loop-count
decreases-loop-count g l = length l.keys - l.count
