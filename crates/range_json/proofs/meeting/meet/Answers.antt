use Rattle.range_algebra.specs.Range.{IsEmptyRange}
use Rattle.range_json.proofs.Meetings.{overlap_by}
use Rattle.range_json.proofs.meeting.meet.Goals as goal

pub returns : goal.returns
returns g c =
    let order = g.K.MaybeBounded.order in
    let r = c.args.range.now in
    let s = c.args.other.now in
    let told = c.intersects.ensures.by_position tt in
    let overlap = overlap_by order g.met.K.PartialEnum.lawful r s in
    let full : ¬ IsEmptyRange order r = λ e. let is =
    c.is_empty.ensures.by_position.1 e in let no = c.if-is_empty.false in absurd cc in
    let other : ¬ IsEmptyRange order s = λ e. let is =
    c.is_empty-2.ensures.by_position.1 e in let no = c.if-is_empty-2.false in absurd cc in
    (λ h. (full, other, overlap.0 (told.0 h)), λ h. told.1 (overlap.1 h.2))
