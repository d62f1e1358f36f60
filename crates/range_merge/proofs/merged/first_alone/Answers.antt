use Rattle.std.proofs.Common.{◌∙◌, ap, sym}
use Rattle.std.specs.Option.{option_map}
use Rattle.range_keys.specs.Position.{bound_of}
use Rattle.range_merge.specs.Merged.{part_item}
use Rattle.range_merge.proofs.FirstPieces.{later_has_end, whole_first, cut_first}
use Rattle.range_merge.proofs.merged.first_alone.Goals as goal
use Rattle.range_merge.proofs.merged.first_alone.Goals.{then-starts_past, else-starts_past+in-Some}

pub unreachable-requires : goal.unreachable-requires
unreachable-requires g c =
    later_has_end g.met.K.PartialEnum.lawful (part_item c.args.part).key
    (bound_of c.args.later.start) c.requires.part c.requires.before
    (sym c.flip.ensures ∙ ap (λ b. option_map bound_of b) c.in-None.is)

pub returns : goal.returns
returns g c =
    let lawful = g.met.K.PartialEnum.lawful in
    let part = part_item c.args.part in
    let later = part_item c.args.later in
    let last = c.end_bound-last.ensures tt in
    let past = sym c.starts_past.ensures in
    elim c.if-starts_past.branch [
      | then-starts_past w ↦
          rw (c.new.ensures.start, c.new.ensures.end, w.cut-is, last)
          (whole_first lawful part later c.requires.part c.requires.later c.requires.before
          (rw (← last) (past ∙ w.if-starts_past.true)))
      | else-starts_past+in-Some w ↦
          rw (c.new.ensures.start, c.new.ensures.end, w.cut-is)
          (cut_first lawful part later c.requires.part c.requires.later c.requires.before
          (bound_of w.in-Some.end)
          (sym w.flip.ensures ∙ ap (λ b. option_map bound_of b) w.in-Some.is)
          (rw (← last) (past ∙ w.if-starts_past.false)))
    ]
