use Rattle.range_edit.proofs.Common.{not_lt, PLe, ◌≡◌, ◌+◌, ◌-◌, ◌<◌, length, get_or, ap, sym, ◌∙◌, arith, subst, get_or_read, upper, rank_or_len, item_upper}
use Rattle.range_runs.proofs.Tests.{not_both}
use Rattle.range_edit.proofs.reach.reaching_after.Goals as goal

pub returns-else-ends_after-clause-reaching : goal.returns-else-ends_after-clause-reaching
returns-else-ends_after-clause-reaching g c = λ x some read.
    let order = g.K.MaybeBounded.order in
    let storage = g.C.Storage in
    let stored = c.args.stored.now in
    let items = storage.items stored in
    let w = c.args.window.now in
    let place = rank_or_len (storage.rank stored) (length items) w.from in
    let last = rw c.in-Some.is at c.requires.window.last_is in
    let index : storage.rank stored c.in-Some.last ≡ place + w.count - 1 = omega (arith, last.0) in
    let within : place + w.count - 1 < length items =
    omega (arith, some, c.requires.window.in_range) in
    let item = c.get.result.now in
    let here : item ≡ get_or items (place + w.count - 1) item =
    c.get.ensures ∙ ap (λ n. get_or items n item) index in
    let same : x ≡ item = get_or_read items (place + w.count - 1) x within read item ∙ sym here in
    let lawful = g.met.K.PartialEnum.lawful in
    subst (λ y. PLe lawful (item_upper order y) (upper order (g.R.AsRange.range c.args.range.now)))
    (sym same) (not_lt lawful _ _ (λ l. not_both c.if-ends_after.false (c.ends_after.ensures.1 l)))
