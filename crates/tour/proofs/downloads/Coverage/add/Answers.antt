use Rattle.std.proofs.lemmas.Result.{on_ok_weaker}
use Rattle.tour.proofs.Bytes.{are_added}
use Rattle.tour.proofs.downloads.Coverage.add.Goals as goal

pub invariant_of-self : goal.invariant_of-self
invariant_of-self c = (c.self.invariant.0, c.insert.ensures.canonical.stored)

pub returns-clause-added : goal.returns-clause-added
returns-clause-added c =
    let added = rw c.new.ensures.start at c.insert.ensures.added in
    let held = rw c.new.ensures.end at added in
    rw (← c.self.view_is)
    (on_ok_weaker c.insert.result (are_added _ _ c.args.first c.args.last) held)
