use Rattle.std.proofs.Common.{refl, arith}
use Rattle.range_multimaps.specs.Pairs.{HasPair}
use Rattle.range_multimaps.proofs.Keeping.{added_is_had, gave_way_to_such}
use Rattle.range_multimaps.proofs.Pairing.{added, values_at, stay_bound}
use Rattle.range_multimaps.proofs.multimap.RangeMultiMap.insert.Goals as goal

pub returns : goal.returns
returns g c =
    let done = c.in_ok-update_sets.ensures in
    let items = g.C.Storage.items c.args.self.now in
    let next = g.C.Storage.items c.update_sets.new.self in
    let order = g.K.MaybeBounded.order in
    let equal = g.met.S.Eq.laws in
    let respects = g.met.S.SetMut.equal_same in
    let once = c.stored_lists_bind_once.ensures items done.was.stored in
    let next_once = c.stored_lists_bind_once.ensures next done.canonical.stored in
    record {
      refused = tt;
      added =
          added order equal respects done.rebound g.met.K.PartialEnum.lawful once next_once
          g.V.PartialEq.eq c.args.value (λ old answer m. rw m.shows at m.says.1.0);
      kept =
          stay_bound order equal respects done.rebound g.met.K.PartialEnum.lawful once next_once
          (λ k. HasPair order g.S.SetMut.has items k c.args.value) (grind (arith, values_at));
      others = done.rebound.others;
      frame =
          λ nonempty. gave_way_to_such order
          (λ old answer m s.
          added_is_had respects g.met.V.Eq.laws c.args.value _ answer s m.says.1.0)
          (done.updated nonempty);
      spelled = done.spelled;
      nonempty = done.nonempty;
      canonical = done.canonical;
      empty_unchanged = done.empty_unchanged;
      empty = λ empty. refl;
    }

pub update_sets-requires-clause-sets : goal.update_sets-requires-clause-sets
update_sets-requires-clause-sets g c = g.met.S.SetMut.clones_equal c.requires.values

pub update_sets-requires-clause-callable : goal.update_sets-requires-clause-callable
update_sets-requires-clause-callable g c = λ shown. c.requires.values

pub update_sets-requires-clause-nonempty : goal.update_sets-requires-clause-nonempty
update_sets-requires-clause-nonempty g c = λ old answer m. m.says.1.1.0
