use Rattle.std.proofs.Common.{refl, true, rules}
use Rattle.std.proofs.lemmas.Result.{on_ok_weaker}
use Rattle.range_sets.proofs.Counting.{one_more}
use Rattle.range_set_extend.proofs.Membership.{added}
use Rattle.range_sets.proofs.set.RangeSet.insert_counted.Goals as goal

pub returns : goal.returns
returns g c =
    let items = g.C.Storage.items in
    record {
      added =
          rw (← c.self.view_is) (on_ok_weaker c.insert_counted.result
          (added g.T.MaybeBounded.order g.met.T.PartialEnum.lawful (λ _ _. true) (λ _ _. refl)
          (items c.self.inside.map) (items c.insert_counted.new.self)
          (g.R.AsRange.range c.args.range)) c.insert_counted.ensures.bound);
      few =
          rw (← c.self.view_is) (one_more g.T.MaybeBounded.order c.insert_counted.result
          (items c.self.inside.map) (items c.insert_counted.new.self)
          (g.R.AsRange.range c.args.range) c.insert_counted.ensures.frame
          c.insert_counted.ensures.refused c.insert_counted.ensures.empty_unchanged);
      succeeds =
          λ never enough.
          c.insert_counted.ensures.succeeds never (λ _. tt) (rw (← c.self.view_is) at enough);
      canonical =
          search rules;
      frame =
          rw (← c.self.view_is) c.insert_counted.ensures.frame;
      refused =
          search rules;
      empty =
          search rules;
      empty_unchanged =
          search rules;
      most =
          search rules;
      least =
          search rules;
      empty_uncounted =
          search rules;
      meets =
          rw (← c.self.view_is) c.insert_counted.ensures.meets;
    }
