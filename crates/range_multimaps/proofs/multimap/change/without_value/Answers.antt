use Rattle.std.proofs.Common.{arith}
use Rattle.std.proofs.lemmas.Grind.{common_steps}
use Rattle.range_multimaps.proofs.Altered.{taken_from_copy, none_taken}
use Rattle.range_multimaps.proofs.multimap.change.without_value.Goals as goal

pub returns : goal.returns
returns g c =
    let old = c.in-Some.old.now in
    let copy = c.in_ok-set.set in
    let alike =
    g.met.S.SetMut.equal_same old copy
    (g.met.S.SetMut.clones_equal c.requires old copy c.in_ok-set.ensures.cases) in
    record {
      removed = grind (arith, taken_from_copy);
      nonempty =
          grind (arith, common_steps);
      kept =
          let next = c.remove.new.self in
          let v = c.args.value.now in
          let has = g.S.SetMut.has in
          let eq = g.V.PartialEq.eq in
          rw c.in-Some.is (grind (arith, none_taken, taken_from_copy));
    }
