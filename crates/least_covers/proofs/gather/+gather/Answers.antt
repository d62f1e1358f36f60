use Rattle.std.proofs.Common.{rules, ◌≡◌, ◌+◌, ◌-◌, ◌<◌, ◌^◌, subst, arith}
use Rattle.std.proofs.lemmas.Grind.{common_steps}
use Rattle.shortest_tables.proofs.Gathers.{half_power}
use Rattle.least_covers.specs.Runs.{AreLeft}
use Rattle.least_covers.proofs.Gathers.{found_falls, found_within, gathered_both, gathered_whole}
use Rattle.least_covers.proofs.gather.+gather.Goals as goal

pub uniform-requires-clause-left : goal.uniform-requires-clause-left
uniform-requires-clause-left t c = c.requires.left

pub uniform-requires-clause-small : goal.uniform-requires-clause-small
uniform-requires-clause-small t c = c.requires.small

pub uniform-requires-clause-fits : goal.uniform-requires-clause-fits
uniform-requires-clause-fits t c = c.requires.fits

pub returns-in_err-part : goal.returns-in_err-part
returns-in_err-part t c = first_of (search rules, grind (arith, common_steps))

pub returns-in_err-push_if : goal.returns-in_err-push_if
returns-in_err-push_if t c = first_of (search rules, grind (arith, common_steps))

pub returns-in-Some : goal.returns-in-Some
returns-in-Some t c =
    gathered_whole c.args.most c.args.left.now c.in-Some.all.left.now c.args.free c.args.network
    c.in-Some.all.is_held c.args.marks.now c.push_if.new.self c.in_ok-part.part.room
    c.in_ok-part.part.row.items c.in-Some.ensures.alike c.in-Some.ensures.left c.in-Some.ensures.same
    c.in_ok-part.ensures.room c.in_ok-part.ensures.row c.in_ok-push_if.ensures.nodes
    c.push_if.ensures.shares

pub overflow_sub-free : goal.overflow_sub-free
overflow_sub-free t c = c.in_default.ensures.wide

pub greatest_of-requires : goal.greatest_of-requires
greatest_of-requires t c = omega (arith, c.requires.small)

pub overflow_add-middle : goal.overflow_add-middle
overflow_add-middle t c =
    let half = half_power c.args.free c.in_default.ensures.wide in
    let e = c.greatest_of.ensures in
    let fits = c.requires.fits in
    let small : c.args.network + c.greatest_of.result < 340282366920938463463374607431768211456 = omega (arith, half, e, fits) in
    first_of (search rules, grind (arith, common_steps))

pub overflow_add-middle-2 : goal.overflow_add-middle-2
overflow_add-middle-2 t c =
    let half = half_power c.args.free c.in_default.ensures.wide in
    let e = c.greatest_of.ensures in
    let fits = c.requires.fits in
    let small : c.args.network + c.greatest_of.result + 1 < 340282366920938463463374607431768211456 = omega (arith, half, e, fits) in
    first_of (search rules, grind (arith, common_steps))

pub overflow_sub-free-2 : goal.overflow_sub-free-2
overflow_sub-free-2 t c = c.in_default.ensures.wide

pub gather-requires : goal.gather-requires
gather-requires t c =
    let wide = c.in_default.ensures.wide in
    let half = half_power c.args.free wide in
    let fits = c.requires.fits in
    let small = c.requires.small in (
      first_of (omega (arith, wide), search rules),
      (c.requires.left, (c.requires.some, (omega (arith, small), omega (arith, half, fits)))),
    )

pub returns-in_err-low : goal.returns-in_err-low
returns-in_err-low t c = first_of (search rules, grind (arith, common_steps))

pub overflow_sub-free-3 : goal.overflow_sub-free-3
overflow_sub-free-3 t c = c.in_default.ensures.wide

pub gather-requires-2 : goal.gather-requires-2
gather-requires-2 t c =
    let wide = c.in_default.ensures.wide in
    let half = half_power c.args.free wide in
    let e = c.greatest_of.ensures in
    let fits = c.requires.fits in
    let small = c.requires.small in
    let start : c.args.network + 2 ^ (c.args.free - 1) ≡ c.args.network + c.greatest_of.result + 1 = omega (arith, e) in (
      first_of (omega (arith, wide), search rules),
      (
        subst (λ n. AreLeft n c.in_ok-low.low.left.now) start c.in_ok-low.ensures.ahead,
        (c.requires.some, (omega (arith, small), omega (arith, half, e, fits))),
      ),
    )

pub returns-in_err-high : goal.returns-in_err-high
returns-in_err-high t c = first_of (search rules, grind (arith, common_steps))

pub join-requires-clause-some : goal.join-requires-clause-some
join-requires-clause-some t c = c.requires.some

pub join-requires-clause-wide : goal.join-requires-clause-wide
join-requires-clause-wide t c = c.in_default.ensures.wide

pub join-requires-clause-small : goal.join-requires-clause-small
join-requires-clause-small t c = c.requires.small

pub join-requires-clause-falls : goal.join-requires-clause-falls
join-requires-clause-falls t c =
    found_falls c.args.most c.args.left.now (c.args.free - 1) c.args.network c.args.marks.now
    c.gather.new.marks c.in_ok-low.low.part.room c.in_ok-low.low.part.row.items c.in_ok-low.ensures.found

pub join-requires-clause-high_falls : goal.join-requires-clause-high_falls
join-requires-clause-high_falls t c =
    found_falls c.args.most c.in_ok-low.low.left.now (c.args.free - 1)
    (c.args.network + c.greatest_of.result + 1) c.gather.new.marks c.gather-2.new.marks
    c.in_ok-high.high.part.room c.in_ok-high.high.part.row.items c.in_ok-high.ensures.found

pub join-requires-clause-within : goal.join-requires-clause-within
join-requires-clause-within t c =
    found_within c.args.most c.args.left.now (c.args.free - 1) c.args.network c.args.marks.now
    c.gather.new.marks c.in_ok-low.low.part.room c.in_ok-low.low.part.row.items c.in_ok-low.ensures.found

pub join-requires-clause-high_within : goal.join-requires-clause-high_within
join-requires-clause-high_within t c =
    found_within c.args.most c.in_ok-low.low.left.now (c.args.free - 1)
    (c.args.network + c.greatest_of.result + 1) c.gather.new.marks c.gather-2.new.marks
    c.in_ok-high.high.part.room c.in_ok-high.high.part.row.items c.in_ok-high.ensures.found

pub join-requires-clause-room : goal.join-requires-clause-room
join-requires-clause-room t c = c.in_ok-low.ensures.small

pub join-requires-clause-high_room : goal.join-requires-clause-high_room
join-requires-clause-high_room t c = c.in_ok-high.ensures.small

pub returns-in_err-part-2 : goal.returns-in_err-part-2
returns-in_err-part-2 t c = first_of (search rules, grind (arith, common_steps))

pub returns : goal.returns
returns t c =
    let wide = c.in_default.ensures.wide in
    let e = c.greatest_of.ensures in
    gathered_both c.args.most c.args.left.now c.in_ok-low.low.left.now c.in_ok-high.high.left.now
    (c.args.free - 1) c.args.network c.args.marks.now c.gather.new.marks c.gather-2.new.marks
    c.join.new.marks c.in_ok-low.low.part.room c.in_ok-high.high.part.room c.in_ok-part-2.part.room
    c.in_ok-part-2.part.row.items c.in_ok-low.low.part.row.items c.in_ok-high.high.part.row.items
    c.args.free (c.args.network + c.greatest_of.result + 1) (omega (arith, wide)) (omega (arith, e))
    c.requires.some c.in_ok-low.ensures c.in_ok-high.ensures c.in_ok-part-2.ensures
