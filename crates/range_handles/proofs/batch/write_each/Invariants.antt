use Rattle.std.proofs.Common.{◌≡◌, ◌≤◌, ◌+◌, ◌++◌, ℕ, take, drop, map, length, ◌-◌}
use Rattle.range_handles.proofs.batch.write_each.Given as goal

abbrev pub invariant-loop-count : goal.invariant-loop-count
invariant-loop-count g l =
    record {
      shown :
          map g.E.Shown.said (take (l.start + l.count) l.slots)
          ≡ map g.E.Shown.said (take l.start l.initial.slots) ++ take l.count l.items;
      rest : (n : ℕ) → l.start + l.count ≤ n → drop n l.slots ≡ drop n l.initial.slots;
      within : l.count ≤ length l.items;
      long : length l.slots ≡ length l.initial.slots;
    }

abbrev pub decreases-loop-count : goal.decreases-loop-count
decreases-loop-count g l = length l.items - l.count
