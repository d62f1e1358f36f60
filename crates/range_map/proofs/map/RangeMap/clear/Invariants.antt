use Rattle.std.proofs.Common.{◌+◌, ◌≤◌, length}
use Rattle.range_map.proofs.map.RangeMap.clear.Given as goal

abbrev pub invariant-loop-last : goal.invariant-loop-last
invariant-loop-last g l =
    let storage = g.C.Storage in
    let before = l.initial.self-inside.stored in
    let now = l.self-inside.stored in
    storage.room before + length (storage.items before)
    ≤ storage.room now + length (storage.items now)

abbrev pub decreases-loop-last : goal.decreases-loop-last
decreases-loop-last g l = length (g.C.Storage.items l.self-inside.stored)
