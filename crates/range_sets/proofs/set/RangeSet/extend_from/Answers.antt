use Rattle.std.proofs.Common.{refl, true, rules}
use Rattle.std.proofs.lemmas.Result.{on_ok_weaker, on_err_weaker}
use Rattle.range_map.specs.Overlays.{IsOverlaid}
use Rattle.range_sets.specs.TwoSets.{HoldsEither}
use Rattle.range_sets.proofs.InPlace.{before_one, either}
use Rattle.range_sets.proofs.set.RangeSet.extend_from.Goals as goal

pub returns : goal.returns
returns g c =
    let order = g.T.MaybeBounded.order in
    let lawful = g.met.T.PartialEnum.lawful in
    let first = g.C.Storage.items c.self.inside.map in
    let others = g.D.Storage.items c.other.inside.map in
    let now = g.C.Storage.items c.extend_from.new.self in
    record {
      held =
          rw (← c.self.view_is, ← c.other.view_is) (on_ok_weaker c.extend_from.result
          (either order lawful (λ _ _. true) (λ _ _. refl) first others now)
          c.extend_from.ensures.bound);
      refused =
          rw (← c.self.view_is, ← c.other.view_is) (on_err_weaker c.extend_from.result
          (before_one (λ front. IsOverlaid order (λ _ _. true) first front now)
          (λ front. HoldsEither order first front now) others
          (λ front. either order lawful (λ _ _. true) (λ _ _. refl) first front now))
          c.extend_from.ensures.refused);
      canonical =
          search rules;
    }
