use Rattle.std.proofs.Common.{arith}
use Rattle.lexing_classes.specs.Leads.{LeadsBy}
use Rattle.lexing_classes.proofs.Any.{any-append}
use Rattle.lexing_patterns.proofs.part.leads_with.Goals as goal

pub returns-clause-members : goal.returns-clause-members
returns-clause-members c = λ d q. grind (arith, any-append (LeadsBy d q) c.args.leads.items c.args.more.now)
