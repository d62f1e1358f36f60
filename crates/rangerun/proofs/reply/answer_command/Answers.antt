use Rattle.std.specs.Ordering.{int_eq}
use Rattle.rangerun.specs.Tags.{IsAnswerOf}
use Rattle.rangerun.proofs.Steps.{step_as}
use Rattle.rangerun.proofs.reply.answer_command.Goals as goal

pub returns : goal.returns
returns g c = step_as g.K.MaybeBounded.order int_eq _ IsAnswerOf
    (λ tag value answer m. rw m.shows at (rw m.tags at m.says.1))
    _ c.args.command c.answer.result _ c.answer.ensures
