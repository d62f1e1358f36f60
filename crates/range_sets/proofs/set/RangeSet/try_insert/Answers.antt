use Rattle.std.proofs.Common.{rules, refl, true, arith}
use Rattle.std.proofs.lemmas.Bool.{false≢true}
use Rattle.range_sets.proofs.Counting.{one_more}
use Rattle.range_set_extend.proofs.Membership.{added}
use Rattle.range_sets.proofs.set.RangeSet.try_insert.Goals as goal
use Rattle.range_sets.proofs.set.RangeSet.try_insert.Goals.{in-Ok, in-Err-Occupied, in-Err-Memory}

pub returns : goal.returns
returns g c =
    let items = g.C.Storage.items in
    record {
      occupied = search rules;
      given = search rules;
      canonical = search rules;
      frame = search rules;
      refused = search rules;
      succeeds = λ enough unmet. grind (arith, false≢true);
      empty = search rules;
      empty_unchanged = search rules;
      added =
          rw (← c.self.view_is) (elim c.match-try_insert.branch [
            | in-Ok w ↦
                rw w.result-is (added g.T.MaybeBounded.order g.met.T.PartialEnum.lawful
                (λ _ _. true)
                (λ _ _. refl) (items c.self.inside.map) (items c.try_insert.new.self)
                (g.R.AsRange.range c.args.range) w.in-Ok.ensures.bound)
            | in-Err-Occupied w ↦ rw w.result-is tt
            | in-Err-Memory w ↦ rw w.result-is tt
          ]);
      meets =
          rw (← c.self.view_is) (elim c.match-try_insert.branch [
            | in-Ok w ↦ rw w.result-is w.in-Ok.ensures.meets
            | in-Err-Occupied w ↦ rw w.result-is tt
            | in-Err-Memory w ↦ rw w.result-is tt
          ]);
      few = grind (arith, one_more);
    }
