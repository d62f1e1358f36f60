use Rattle.std.proofs.Common.{◌++◌, length, drop, ap, sym, ◌∙◌}
use Rattle.range_store.specs.ListRanks.{rank_or_len}
use Rattle.range_map.proofs.Onward.{chunk_and_rest}
use Rattle.range_map.proofs.inner.onward.Onward.next.Goals as goal

pub returns : goal.returns
returns g c =
    let o = c.self.inside in
    let p = c.in_ok-self.field-0 in
    let items = g.C.Storage.items o.stored.now in
    let rank = g.C.Storage.rank o.stored.now in
    let chunk = c.chunk_from-chunk.ensures in
    sym c.self.view_is
    ∙ ap (λ near. near ++ drop (rank_or_len rank (length items) o.after) items)
    c.in_default.ensures.0
    ∙ ap (λ after. drop (rank_or_len rank (length items) after) items) c.in_ok-self.was
    ∙ chunk_and_rest (g.C.Storage.is_good o.stored.now) rank items (rank p) c.chunk_from-chunk.result.first.now
    c.chunk_from-chunk.result.rest c.chunk_from-chunk.result.after
    (g.met.C.Storage.good_is_in_range o.stored.now p (c.self.invariant p c.in_ok-self.was))
    chunk.first chunk.rest chunk.after
