use Rattle.std.proofs.lemmas.Result.{on_ok_weaker}
use Rattle.tour.proofs.access.table.AccessTable.allow.Goals as goal

pub returns-clause-decided : goal.returns-clause-decided
returns-clause-decided g c rules decided =
    on_ok_weaker c.insert.result
    (λ bound port key label says. (
      λ held. (bound.held port key held label).0 says,
      λ out. decided port key label
          (rw (← c.self.view_is) ((bound.others port key out label).0 says)),
    )) c.insert.ensures.bound
