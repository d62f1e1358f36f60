use Rattle.range_map.proofs.Common.{rules, ap, ◌∙◌, fold, is_eq, lists_fed}
use Rattle.range_map.proofs.StoredLists.{stored_equal}
use Rattle.range_map.proofs.map.compare.RangeMapHash.hash.Goals as goal

pub returns-clause-value : goal.returns-clause-value
returns-clause-value g c = search rules

pub returns-clause-same : goal.returns-clause-same
returns-clause-same g c = λ complete others stored alike.
    let items = g.C.Storage.items c.args.self.now in
    let equal =
    (stored_equal g.met.K.PartialEnum.lawful g.met.V.Eq.laws complete items others
    c.in_form.ensures.stored stored).1 alike in
    let fed =
    lists_fed g.K.MaybeBounded.order g.V.PartialEq.eq g.K.Hash.hash_input g.V.Hash.hash_input
    (λ a b f. g.met.K.Hash.respects_eq a b
    (g.met.K.Ord.matches_eq a b ∙ ap is_eq (g.met.K.MaybeBounded.order_is_cmp a b ∙ f)))
    g.met.V.Hash.respects_eq items others equal in
    returns-clause-value g c ∙ ap (fold g.H.Hasher.write c.args.state.now) fed
