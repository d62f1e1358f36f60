use Rattle.std.proofs.Common.{refl, true, rules}
use Rattle.std.proofs.lemmas.Result.{on_ok_weaker, on_err_weaker}
use Rattle.range_map.specs.Overlays.{IsWithout}
use Rattle.range_sets.specs.TwoSets.{HoldsFirstAlone}
use Rattle.range_sets.proofs.InPlace.{before_one, first_alone}
use Rattle.range_sets.proofs.set.RangeSet.remove_all.Goals as goal

pub returns : goal.returns
returns g c =
    let order = g.T.MaybeBounded.order in
    let lawful = g.met.T.PartialEnum.lawful in
    let first = g.C.Storage.items c.self.inside.map in
    let others = g.D.Storage.items c.other.inside.map in
    let now = g.C.Storage.items c.remove_all.new.self in
    record {
      held =
          rw (← c.self.view_is, ← c.other.view_is) (on_ok_weaker c.remove_all.result
          (first_alone order lawful (λ _ _. true) (λ _ _. refl) first others now)
          c.remove_all.ensures.bound);
      refused =
          rw (← c.self.view_is, ← c.other.view_is) (on_err_weaker c.remove_all.result
          (before_one (λ front. IsWithout order (λ _ _. true) first front now)
          (λ front. HoldsFirstAlone order first front now) others
          (λ front. first_alone order lawful (λ _ _. true) (λ _ _. refl) first front now))
          c.remove_all.ensures.refused);
      canonical =
          search rules;
    }
