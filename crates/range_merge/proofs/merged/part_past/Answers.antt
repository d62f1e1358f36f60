use Rattle.std.proofs.Common.{◌∙◌, ap, sym}
use Rattle.std.specs.Option.{option_map}
use Rattle.range_keys.specs.Position.{bound_of}
use Rattle.range_merge.specs.Merged.{part_item}
use Rattle.range_merge.proofs.FirstPieces.{earlier_has_start, is_part_past}
use Rattle.range_merge.proofs.merged.part_past.Goals as goal

pub unreachable-requires : goal.unreachable-requires
unreachable-requires g c =
    earlier_has_start g.met.K.PartialEnum.lawful
    (part_item c.args.part.now).key (bound_of c.args.end) c.requires.part c.requires.before
    (sym c.flip.ensures ∙ ap (λ b. option_map bound_of b) c.in-None.is)

pub returns : goal.returns
returns g c =
    is_part_past g.met.K.PartialEnum.lawful (part_item c.args.part.now)
    c.requires.part (bound_of c.args.end) (bound_of c.in-Some.start) c.requires.known
    c.requires.before (sym c.flip.ensures ∙ ap (λ b. option_map bound_of b) c.in-Some.is)
