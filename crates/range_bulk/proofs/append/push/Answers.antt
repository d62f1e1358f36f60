use Rattle.std.proofs.Common.{◌-◌, length, ◌∙◌, refl, arith}
use Rattle.range_bulk.proofs.AppendedLists.{joined_last, pushed_apart}
use Rattle.range_bulk.proofs.append.push.Goals as goal

pub returns-then-is_one_with_last : goal.returns-then-is_one_with_last
returns-then-is_one_with_last g c =
    let items = c.args.items.now.items in
    let item = c.args.item in
    let is = c.if-is_one_with_last.ensures.one refl in
    let list = rw c.into_pair-range.ensures at (c.end_last_at.ensures item) in
    rw list (joined_last g.K.MaybeBounded.order g.V.PartialEq.eq items (length items - 1) item item
    (omega (arith, is.0)) (is.1 item))

pub returns : goal.returns
returns g c =
    (rw c.reserve.ensures.items at c.in_ok-push.ensures.items)
    ∙ pushed_apart g.K.MaybeBounded.order g.V.PartialEq.eq c.args.items.now.items c.args.item
    (c.if-is_one_with_last.ensures.apart refl)
