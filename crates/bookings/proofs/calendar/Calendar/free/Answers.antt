use Rattle.std.proofs.Common.{arith, ◌≤◌, ◌<◌, ◌+◌}
use Rattle.std.specs.declared.ops.Bound.TheVariants.{Included, Excluded}
use Rattle.btree_range_map.specs.Names.{range_from_to}
use Rattle.bookings.proofs.Meeting.{first_in_the_way}
use Rattle.bookings.proofs.Minutes.{end_held, start_held}
use Rattle.bookings.proofs.Room.{in_the_way, none_before, none_later}
use Rattle.bookings.proofs.calendar.Calendar.free.Goals as goal

pub loop-start-preserved : goal.loop-start-preserved
loop-start-preserved c =
    let bookings = c.args.self.now in
    let within = c.args.within.now in
    let size = c.args.length in
    let start = c.loop-start.start in
    let next = c.after-start.result in
    let (name, others, way) = c.in-Some.ensures in
    let (among, (m, key, holds, wanted)) =
    first_in_the_way bookings (range_from_to start (start + size))
    (record { key = c.in-Some.booked; value = name }) others way in
    let low : start ≤ m = start_held (Included start) m wanted.0 in
    let high : m < start + size = end_held (Excluded (start + size)) m key wanted.1 in
    let later : m < next = c.after-start.ensures.past m (omega (arith, high)) holds.1 in
    record {
      inside = omega (arith, low, later, c.loop-start.invariant.inside);
      none =
          none_before bookings within size start c.loop-start.invariant.none next
          (in_the_way bookings within size start next _ among m key holds wanted
          c.after-start.ensures.held (omega arith));
    }

pub returns-else-length-within : goal.returns-else-length-within
returns-else-length-within c =
    none_later c.args.self.now c.args.within.now c.args.length c.loop-start.start
    c.loop-start.invariant.none (omega arith)

pub returns-after-loop-start : goal.returns-after-loop-start
returns-after-loop-start c =
    none_later c.args.self.now c.args.within.now c.args.length c.loop-start.start
    c.loop-start.invariant.none (omega arith)
