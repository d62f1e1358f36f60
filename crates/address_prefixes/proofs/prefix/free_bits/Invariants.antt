use Rattle.std.proofs.Common.{◌+◌, ◌-◌, ◌*◌, ◌^◌, ◌≤◌, ◌≡◌}
use Rattle.address_prefixes.proofs.prefix.free_bits.Given as goal

-- 2^free numbers fit, and the first is that many times the block
abbrev pub invariant-loop-free : goal.invariant-loop-free
invariant-loop-free l =
    (l.free ≤ l.width) × (l.first ≡ l.block * 2 ^ l.free) × (l.spare + 1 ≡ 2 ^ l.free)
    × (l.spare ≤ l.room)

abbrev pub decreases-loop-free : goal.decreases-loop-free
decreases-loop-free l = l.width - l.free
