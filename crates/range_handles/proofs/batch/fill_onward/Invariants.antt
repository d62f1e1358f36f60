use Rattle.std.proofs.Common.{◌≡◌, ◌≤◌, ◌++◌, ℕ, take, drop, map, length, ◌-◌}
use Rattle.range_handles.proofs.batch.fill_onward.Given as goal

abbrev pub invariant-loop-count : goal.invariant-loop-count
invariant-loop-count g l =
    record {
      shown : l.initial.items ≡ map g.E.Shown.said (take l.count l.slots) ++ l.items;
      rest : (n : ℕ) → l.count ≤ n → drop n l.slots ≡ drop n l.initial.slots;
      within : l.count ≤ length l.slots;
      long : length l.slots ≡ length l.initial.slots;
    }

abbrev pub decreases-loop-count : goal.decreases-loop-count
decreases-loop-count g l = length l.slots - l.count
