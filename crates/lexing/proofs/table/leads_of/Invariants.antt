use Rattle.std.proofs.Common.{length}
use Rattle.lexing.proofs.Leads.{AreLeadsSoFar}
use Rattle.lexing.proofs.table.leads_of.Given as goal

abbrev pub invariant-loop-range : goal.invariant-loop-range
invariant-loop-range l = AreLeadsSoFar l.initial.entries l.entries l.leads.items

abbrev pub decreases-loop-range : goal.decreases-loop-range
decreases-loop-range l = length l.entries
