use Rattle.std.proofs.Common.{◌∙◌, sym, Some, arith}
use Rattle.range_merge.specs.Merged.{part_item}
use Rattle.range_merge.proofs.FirstPieces.{first_ends, past_same, second_ends}
use Rattle.range_merge.proofs.merged.first_of_both.Goals as goal
use Rattle.range_merge.proofs.merged.first_of_both.Goals.{in-Less, in-Equal, in-Greater}

pub returns : goal.returns
returns g c =
    let lawful = g.met.K.PartialEnum.lawful in
    let part = part_item c.args.part in
    let other = part_item c.args.other in
    let end = c.end_bound-end.ensures tt in
    let other_end = c.end_bound-other_end.ensures tt in
    elim c.match-compare_ends.branch [
      | in-Less w ↦
          rw (c.new.ensures.start, c.new.ensures.end, w.cut-is, end)
          (first_ends lawful part other c.requires.part c.requires.other c.requires.alike
          (Some (part_item w.part_past.result)) (rw end at w.part_past.ensures))
      | in-Equal w ↦ grind (arith, first_ends, past_same)
      | in-Greater w ↦
          rw (c.new.ensures.start, c.new.ensures.end, w.cut-is, other_end)
          (second_ends lawful part other c.requires.part c.requires.other c.requires.alike
          (part_item w.part_past-in-Greater.result)
          (rw other_end at w.part_past-in-Greater.ensures))
    ]

pub part_past-requires-clause-before : goal.part_past-requires-clause-before
part_past-requires-clause-before g c =
    rw (← c.end_bound-other_end.ensures tt) (sym c.compare_ends.ensures ∙ c.in-Less.is)
