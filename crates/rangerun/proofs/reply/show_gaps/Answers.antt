use Rattle.std.proofs.lemmas.Result.{on_ok_weaker}
use Rattle.rangerun.proofs.Steps.{every_as}
use Rattle.rangerun.proofs.reply.show_gaps.Goals as goal

pub write_gaps-requires : goal.write_gaps-requires
write_gaps-requires g c =
    every_as _ _ (λ gap piece. piece.0.nonempty) c.gaps.result c.gaps.ensures.gaps.each

pub returns : goal.returns
returns g c = on_ok_weaker c.write_gaps.result
    (λ (text, lines, appended). (text, (c.gaps.result, c.gaps.ensures.gaps, lines), appended))
    c.write_gaps.ensures
