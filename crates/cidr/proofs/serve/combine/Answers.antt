use Rattle.cidr.proofs.serve.combine.Goals as goal

pub returns-in_ok-list-in-Diff : goal.returns-in_ok-list-in-Diff
returns-in_ok-list-in-Diff c = rw (c.in-Diff.is) c.in_ok-list-in-Diff.ensures
