use Rattle.range_bulk.proofs.Common.{arith, common_steps, ◌∙◌, sym, append_assoc, append-nil, insert_end, as_one}
use Rattle.range_bulk.proofs.AppendedLists.{appended_last, appended_none}
use Rattle.range_bulk.proofs.append.move_first.Goals as goal

pub returns-in-Some-pop_first-clause-list : goal.returns-in-Some-pop_first-clause-list
returns-in-Some-pop_first-clause-list g c =
    let order = g.K.MaybeBounded.order in
    let same = g.V.PartialEq.eq in
    let front = g.C.Storage.items c.pop_last.new.self in
    let rest = g.D.Storage.items c.pop_first.new.self in
    let last = c.in-Some.last in
    let first = c.in-Some-pop_first.first in
    rw (c.in-Some.ensures.list, c.in-Some-pop_first.ensures.list, c.put_last.ensures.list)
    (append_assoc front (as_one order same last first) rest
    ∙ sym (appended_last order same front last first rest))

pub returns-in-None-clause-list : goal.returns-in-None-clause-list
returns-in-None-clause-list g c = grind (arith, common_steps, insert_end, append-nil, appended_none)
