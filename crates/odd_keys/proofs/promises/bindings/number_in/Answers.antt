use Rattle.std.proofs.Common.{◌≡◌, subst}
use Rattle.std.proofs.lemmas.Result.{IfOk-weaker}
use Rattle.std.specs.Option.{option_copied}
use Rattle.std.specs.Ordering.{int_eq}
use Rattle.odd_keys.specs.Promises.{IsAdded}
use Rattle.odd_keys.proofs.Decided.{bind_over_more}
use Rattle.odd_keys.proofs.promises.bindings.number_in.Goals as goal

pub returns : goal.returns
returns g c =
    IfOk-weaker c.bound_by_commands.result _ _ (λ answered over.
    bind_over_more g.K.MaybeBounded.order int_eq c.args.key _ IsAdded
    (λ tag value answer m. subst (λ v. IsAdded tag v answer) m.shows
    (subst (λ t. IsAdded t (option_copied m.shown) answer) m.tags m.says.1)) _ _ (λ b h. h)
    c.args.commands.items answered.replies.items answered.value over)
    c.bound_by_commands.ensures
