use Rattle.std.proofs.Common.{refl, true, rules}
use Rattle.std.proofs.lemmas.Result.{on_ok_weaker}
use Rattle.range_set_extend.proofs.Membership.{removed}
use Rattle.range_sets.proofs.set.RangeSet.remove_counted.Goals as goal

pub returns : goal.returns
returns g c =
    record {
      removed =
          let items = g.C.Storage.items in
          rw (← c.self.view_is) (on_ok_weaker c.remove_counted.result
          (removed g.T.MaybeBounded.order g.met.T.PartialEnum.lawful (λ _ _. true) (λ _ _. refl)
          (items c.self.inside.map) (items c.remove_counted.new.self)
          (g.R.AsRange.range c.args.range)) c.remove_counted.ensures.unbound);
      canonical =
          search rules;
      apart =
          search rules;
      frame =
          search rules;
      few =
          search rules;
      space = rw (← c.self.view_is) c.remove_counted.ensures.space;
      succeeds =
          λ never enough.
          c.remove_counted.ensures.succeeds never (λ _. tt) (rw (← c.self.view_is) at enough);
      refused =
          search rules;
      empty =
          search rules;
      empty_unchanged =
          search rules;
      unmet =
          rw (← c.self.view_is) (search rules);
      unmet_unchanged =
          rw (← c.self.view_is) (search rules);
      most =
          search rules;
      least =
          search rules;
      empty_uncounted =
          search rules;
    }
