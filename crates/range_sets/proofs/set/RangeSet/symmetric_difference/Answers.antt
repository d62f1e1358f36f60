use Rattle.std.proofs.lemmas.Result.{IfOk-weaker}
use Rattle.range_sets.proofs.KeptKeys.{kept_just_one}
use Rattle.range_sets.proofs.set.RangeSet.symmetric_difference.Goals as goal

pub returns-clause-held : goal.returns-clause-held
returns-clause-held g c =
    let items = g.C.Storage.items c.args.self.now in
    let others = g.D.Storage.items c.args.other.now in
    IfOk-weaker c.kept.result _ _ (λ new kept. kept_just_one g.T.MaybeBounded.order
    g.met.T.PartialEnum.lawful items others (g.C.Storage.items new) kept) c.kept.ensures.kept
