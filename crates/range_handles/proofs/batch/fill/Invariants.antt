use Rattle.std.proofs.Common.{◌≡◌, ◌≤◌, ◌++◌, ℕ, take, drop, map, length, ◌-◌}
use Rattle.range_handles.proofs.batch.fill.Given as goal

abbrev pub invariant-loop-count : goal.invariant-loop-count
invariant-loop-count g l =
    record {
      shown :
          g.S.Source.left l.initial.source
          ≡ map g.S.Source.says (take l.count l.slots) ++ g.S.Source.left l.source;
      rest : (n : ℕ) → l.count ≤ n → drop n l.slots ≡ drop n l.initial.slots;
      within : l.count ≤ length l.initial.slots;
    }

abbrev pub decreases-loop-count : goal.decreases-loop-count
decreases-loop-count g l = length l.slots - l.count
