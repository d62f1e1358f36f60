use Rattle.std.proofs.Common.{rules, of_calls}
use Rattle.std.specs.Prelude.{not}
use Rattle.std.specs.Ordering.{int_eq}
use Rattle.rangecalc.proofs.Made.{kept_by_value}
use Rattle.rangecalc.proofs.answer.drop_value.Goals as goal

pub returns : goal.returns
returns g c =
    kept_by_value _ (λ bound. not (int_eq bound c.args.value)) _
    (λ range bound b f' called. search (rules, of_calls)) _ _ c.retain.ensures.filtered
