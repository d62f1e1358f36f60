use Rattle.tour.proofs.unions.unions_are_equal.Goals as goal

pub returns : goal.returns
returns g c = record {
  equal = λ complete. (c.eq.ensures.same complete).1
      (c.set_operations_commute.ensures.union _ _ _ _ c.in_ok-first.ensures.held
      c.in_ok-second.ensures.held);
}
