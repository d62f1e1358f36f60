use Rattle.std.proofs.Common.{◌≡◌, ◌∙◌, ◌+◌, ◌++◌, ap, sym, refl, arith, map, take, length, append_assoc, slice_set}
use Rattle.std.proofs.lemmas.List.{drop-set-lt, length-set}
use Rattle.range_handles.proofs.Fills.{one_more}
use Rattle.range_handles.proofs.batch.fill_onward.Goals as goal

pub loop-count-preserved : goal.loop-count-preserved
loop-count-preserved g c =
    let said = g.E.Shown.said in
    let slots = c.loop-count.slots in
    let count = c.loop-count.count in
    let given = c.of_item.result in
    let was = c.loop-count.invariant in
    let front = map said (take (count + 1) (slice_set slots count given)) in
    let left = c.next_items-near.new.self in
    let many : length c.write_each.new.slots ≡ length slots =
    c.write_each.ensures.long ∙ length-set slots count given in
    record {
      shown =
          one_more said slots count given c.args.items.now c.in-Some.item.now c.next.new.self
          c.loop-count-test.true
          (was.shown ∙ ap (λ items. map said (take count slots) ++ items) c.in-Some.ensures)
          c.of_item.ensures
          ∙ ap (λ items. front ++ items) c.next_items-near.ensures.items
          ∙ sym (append_assoc front c.next_items-near.result.now left)
          ∙ ap (λ items. items ++ left) (sym c.write_each.ensures.shown);
      rest = λ n past.
          c.write_each.ensures.rest n past
          ∙ drop-set-lt n slots count given (omega arith)
          ∙ was.rest n (omega arith);
      within = omega (arith, many, length-set slots count given, c.next_items-near.ensures.most);
      long = many ∙ was.long;
    }
