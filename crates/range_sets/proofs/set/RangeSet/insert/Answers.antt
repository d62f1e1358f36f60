use Rattle.std.proofs.Common.{refl, true, rules}
use Rattle.std.proofs.lemmas.Result.{on_ok_weaker}
use Rattle.range_sets.proofs.Counting.{one_more}
use Rattle.range_set_extend.proofs.Membership.{added}
use Rattle.range_sets.proofs.set.RangeSet.insert.Goals as goal

pub returns : goal.returns
returns g c =
    let items = g.C.Storage.items in
    record {
      added =
          rw (← c.self.view_is) (on_ok_weaker c.insert.result
          (added g.T.MaybeBounded.order g.met.T.PartialEnum.lawful (λ _ _. true) (λ _ _. refl)
          (items c.self.inside.map) (items c.insert.new.self) (g.R.AsRange.range c.args.range))
          c.insert.ensures.bound);
      few =
          rw (← c.self.view_is) (one_more g.T.MaybeBounded.order c.insert.result
          (items c.self.inside.map)
          (items c.insert.new.self)
          (g.R.AsRange.range c.args.range) c.insert.ensures.frame c.insert.ensures.refused
          c.insert.ensures.empty_unchanged);
      succeeds =
          λ never enough.
          c.insert.ensures.succeeds never (λ _. tt) (rw (← c.self.view_is) at enough);
      canonical =
          search rules;
      frame =
          rw (← c.self.view_is) c.insert.ensures.frame;
      refused =
          search rules;
      empty =
          search rules;
      empty_unchanged =
          search rules;
      meets =
          rw (← c.self.view_is) c.insert.ensures.meets;
    }
