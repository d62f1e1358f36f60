use Rattle.range_multimaps.proofs.Pairing.{all_removed}
use Rattle.range_multimaps.proofs.multimap.RangeMultiMap.remove_values.Goals as goal

pub returns : goal.returns
returns g c =
    let done = c.in_ok-update_sets.ensures in
    let once = c.stored_lists_bind_once.ensures _ done.was.stored in
    let next_once = c.stored_lists_bind_once.ensures _ done.canonical.stored in
    all_removed g.K.MaybeBounded.order g.met.S.Eq.laws g.met.S.SetMut.equal_same done.rebound
    g.met.K.PartialEnum.lawful once next_once (g.S.SetMut.has c.args.values.now)
    (λ old answer m. rw m.shows at m.says.1.0)

pub update_sets-requires-clause-sets : goal.update_sets-requires-clause-sets
update_sets-requires-clause-sets g c = g.met.S.SetMut.clones_equal c.requires.values

pub update_sets-requires-clause-callable : goal.update_sets-requires-clause-callable
update_sets-requires-clause-callable g c = λ shown. c.requires.values

pub update_sets-requires-clause-nonempty : goal.update_sets-requires-clause-nonempty
update_sets-requires-clause-nonempty g c = λ old answer m. m.says.1.1
