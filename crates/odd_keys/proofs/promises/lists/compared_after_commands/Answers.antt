use Rattle.odd_keys.proofs.promises.lists.compared_after_commands.Goals as goal

pub returns-clause-canonical : goal.returns-clause-canonical
returns-clause-canonical g c =
    let complete = g.met.K.Complete.complete in
    record {
      coarse = rw c.iter-items.ensures.items at (c.iter-items.ensures.canonical.coarse complete);
      only = rw c.iter-items.ensures.items at (c.iter-items.ensures.canonical.only complete);
      least = c.range_count-range_count.ensures.least complete;
    }

pub returns-clause-equal : goal.returns-clause-equal
returns-clause-equal g c = c.eq_across-is_equal.ensures.same g.met.K.Complete.complete
