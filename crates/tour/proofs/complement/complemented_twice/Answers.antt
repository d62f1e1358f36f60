use Rattle.tour.proofs.complement.complemented_twice.Goals as goal

pub returns : goal.returns
returns g c = record {
  equal = c.complementing_twice_restores.ensures (g.C.Storage.items c.args.set.now)
      (g.C.Storage.items c.in_ok-others.others)
      (g.C.Storage.items c.in_ok-again.again) c.iter-ranges.ensures.canonical.stored
      c.in_ok-others.ensures.gaps c.in_ok-again.ensures.gaps;
}
