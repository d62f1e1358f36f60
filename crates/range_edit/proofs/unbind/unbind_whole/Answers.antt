use Rattle.range_edit.proofs.Common.{common_steps, refl, ◌≡◌, [], ◌+◌, ◌++◌, length, take, drop, arith, IsStored, append-nil, rank_or_len}
use Rattle.range_edit.proofs.RangeSides.{removed}
use Rattle.range_edit.proofs.SewnSides.{left_side_whole, right_side_whole}
use Rattle.range_edit.proofs.unbind.unbind_whole.Goals as goal

pub returns-clause-removed : goal.returns-clause-removed
returns-clause-removed g c =
    let lawful = g.met.K.PartialEnum.lawful in
    let equal = g.met.V.Eq.laws in
    let storage = g.C.Storage in
    let items = storage.items c.args.stored.now in
    let new = storage.items c.remove_rest.new.stored in
    let window = c.requires.ends.window in
    let place = rank_or_len (storage.rank c.args.stored.now) (length items)
    c.args.ends.now.window.from in
    let end = place + c.args.ends.now.window.count in
    let done : new ≡ take place items ++ [] ++ [] ++ [] ++ drop end items = rw (
      append-nil (take place items),
      append-nil (take place items),
      append-nil (take place items),
    ) c.remove_rest.ensures.list in
    let nothing : IsStored g.K.MaybeBounded.order g.V.PartialEq.eq [] =
    record { known = tt; nonempty = tt; rising = tt } in
    let left = left_side_whole lawful equal window nothing tt
    (rw c.requires.first at c.requires.ends.first) (λ m is. absurd (cc)) in
    removed lawful equal window left (right_side_whole lawful equal window nothing tt left
    (rw c.requires.last at c.requires.ends.last) (λ m is. absurd (cc))) new done refl

pub returns-clause-few : goal.returns-clause-few
returns-clause-few g c = grind (arith, common_steps)

pub returns-clause-space : goal.returns-clause-space
returns-clause-space g c = grind (arith, common_steps)
