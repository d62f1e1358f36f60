use Rattle.btree_range_map.specs.Tagged.{MayAnswerTo}
use Rattle.odd_keys.proofs.Decided.{bind_over_more, free_of_empty}
use Rattle.odd_keys.proofs.promises.bindings.bound_by_commands.Goals as goal

pub returns : goal.returns
returns g c =
    let may = MayAnswerTo g.F.Fn c.args.f.now in
    bind_over_more g.K.MaybeBounded.order g.V.PartialEq.eq c.args.key may may (λ t v a h. h) _ _
    (λ b h. free_of_empty g.K.MaybeBounded.order g.V.PartialEq.eq c.args.key b
    (rw c.new-map.ensures at h)) c.args.commands.items c.in_ok-replies.replies.items
    c.in_ok-value.value
    (c.in_ok-replies.ensures.history c.args.key c.known.ensures c.in_ok-value.value
    c.in_ok-value.ensures)
