use Rattle.std.proofs.Common.{refl, true, rules, of_calls, arith}
use Rattle.std.specs.Fn.{Called, CalledAt, always_mut}
use Rattle.range_set_extend.proofs.Membership.{still_held}
use Rattle.range_sets.proofs.Retained.{ranges_filtered}
use Rattle.range_sets.proofs.set.RangeSet.retain.Goals as goal
use denote.Param.Always.{mut_by, mut_next}

pub retain-requires : goal.retain-requires
retain-requires g c =
    mut_by _ (λ s. always_mut g.F.FnMut s.0)
    (λ s a i. search rules)
    (λ s a r t i e. let made : Called g.F.FnMut s.0 (a.0, tt) r t.0 = search (rules, of_calls) in
    mut_next g.F.FnMut s.0 (a.0, tt) r t.0 t.0 made refl i) _ c.requires

pub returns : goal.returns
returns g c =
    let items = g.C.Storage.items in
    record {
      canonical = c.retain.ensures.canonical;
      few = rw (← c.self.view_is) c.retain.ensures.few;
      space = rw (← c.self.view_is) c.retain.ensures.space;
      filtered =
          rw (← c.self.view_is) (ranges_filtered (λ s. s.0) _ (CalledAt g.F.FnMut)
          (grind arith) _ (items c.self.inside.map) (items c.retain.new.self)
          c.retain.ensures.filtered);
      kept =
          rw (← c.self.view_is) (still_held g.T.MaybeBounded.order g.met.T.PartialEnum.lawful
          (λ _ _. true) (λ _ _. refl) (items c.self.inside.map) (items c.retain.new.self)
          c.retain.ensures.kept);
    }
