use Rattle.std.proofs.Common.{refl, true, rules}
use Rattle.std.proofs.lemmas.Result.{on_ok_weaker, on_err_weaker}
use Rattle.range_map.specs.PartWay.{AreUnboundAfter}
use Rattle.range_set_extend.specs.KeySets.{HoldsWithoutAll}
use Rattle.range_sets.proofs.InPlace.{before_one_gap, both, without_all}
use Rattle.range_sets.proofs.set.RangeSet.retain_all.Goals as goal

pub returns : goal.returns
returns g c =
    let order = g.T.MaybeBounded.order in
    let lawful = g.met.T.PartialEnum.lawful in
    let first = g.C.Storage.items c.self.inside.map in
    let others = g.D.Storage.items c.other.inside.map in
    let now = g.C.Storage.items c.retain_all.new.self in
    record {
      held =
          rw (← c.self.view_is, ← c.other.view_is) (on_ok_weaker c.retain_all.result
          (both order lawful (λ _ _. true) (λ _ _. refl) first others now)
          c.retain_all.ensures.bound);
      refused =
          rw (← c.self.view_is, ← c.other.view_is) (on_err_weaker c.retain_all.result
          (before_one_gap order (AreUnboundAfter order (λ _ _. true) first now)
          (HoldsWithoutAll order first now) others
          (without_all order lawful (λ _ _. true) (λ _ _. refl) first now))
          c.retain_all.ensures.refused);
      canonical =
          search rules;
    }
