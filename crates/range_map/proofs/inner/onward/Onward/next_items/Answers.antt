use Rattle.std.proofs.Common.{◌++◌, length, take, drop, ap, sym, ◌∙◌, append_assoc}
use Rattle.range_algebra.proofs.Lists.{list_is_take_and_drop}
use Rattle.range_store.specs.ListRanks.{rank_or_len}
use Rattle.range_map.proofs.inner.onward.Onward.next_items.Goals as goal

pub returns-clause-items : goal.returns-clause-items
returns-clause-items g c =
    let o = c.self.inside in
    let items = g.C.Storage.items o.stored.now in
    let rest = drop (rank_or_len (g.C.Storage.rank o.stored.now) (length items) o.after) items in
    rw (c.next_items.ensures.items, c.next_items.ensures.rest)
    (sym c.self.view_is
    ∙ ap (λ near. near ++ rest) (list_is_take_and_drop o.near c.args.most)
    ∙ append_assoc (take c.args.most o.near) (drop c.args.most o.near) rest)
