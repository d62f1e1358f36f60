use Rattle.std.proofs.Common.{rules, ◌+◌, ◌≤◌, ◌<◌, ◌^◌, arith, pow_mono}
use Rattle.std.proofs.lemmas.Grind.{common_steps}
use Rattle.shortest_tables.proofs.Gathers.{half_power}
use Rattle.least_covers.proofs.gather.join.Goals as goal

pub overflow_add-half : goal.overflow_add-half
overflow_add-half c =
    let p : 2 ^ c.args.free ≤ 2 ^ 128 = pow_mono c.requires.small in
    let half = half_power c.args.free c.requires.wide in
    let e = c.greatest_of-half.ensures in
    let room = c.requires.room in
    let small : c.greatest_of-half.result + 1 < 340282366920938463463374607431768211456 = omega (arith, p, half, e, room) in
    first_of (search rules, grind (arith, common_steps))

pub overflow_add-room : goal.overflow_add-room
overflow_add-room c =
    let p : 2 ^ c.args.free ≤ 2 ^ 128 = pow_mono c.requires.small in
    let half = half_power c.args.free c.requires.wide in
    let e = c.greatest_of-half.ensures in
    let room = c.requires.high_room in
    let small : c.args.high.room + (c.greatest_of-half.result + 1) < 340282366920938463463374607431768211456 = omega (arith, p, half, e, room) in
    first_of (search rules, grind (arith, common_steps))

pub overflow_add-room-then-is_empty-2 : goal.overflow_add-room-then-is_empty-2
overflow_add-room-then-is_empty-2 c =
    let p : 2 ^ c.args.free ≤ 2 ^ 128 = pow_mono c.requires.small in
    let half = half_power c.args.free c.requires.wide in
    let e = c.greatest_of-half.ensures in
    let room = c.requires.room in
    let small : c.args.low.room + (c.greatest_of-half.result + 1) < 340282366920938463463374607431768211456 = omega (arith, p, half, e, room) in
    first_of (search rules, grind (arith, common_steps))

pub join_both-requires-clause-fits : goal.join_both-requires-clause-fits
join_both-requires-clause-fits c =
    let p : 2 ^ c.args.free ≤ 2 ^ 128 = pow_mono c.requires.small in
    let half = half_power c.args.free c.requires.wide in
    let room = c.requires.room in
    let other = c.requires.high_room in omega (arith, p, half, room, other)
