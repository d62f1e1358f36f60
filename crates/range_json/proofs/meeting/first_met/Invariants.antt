use Rattle.std.proofs.Common.{take}
use Rattle.std.specs.List.{AllByRecursion}
use Rattle.serde_json.specs.View.{view}
use Rattle.range_json.specs.MapFaults.{HasOneReading}
use Rattle.range_json.specs.Meetings.{all_views, NeverMeet}
use Rattle.range_json.proofs.meeting.first_met.Given as goal

abbrev pub invariant-loop-index : goal.invariant-loop-index
invariant-loop-index g l =
    HasOneReading g.K.MaybeBounded.order g.K.Json.is_read
    → AllByRecursion (λ c. NeverMeet g.K.MaybeBounded.order g.K.Json.is_read c (view l.element))
    (all_views (take l.index l.earlier))
