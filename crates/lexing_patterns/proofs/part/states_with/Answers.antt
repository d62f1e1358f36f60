use Rattle.std.proofs.Common.{arith}
use Rattle.lexing_patterns.proofs.Joining.{is_among-append}
use Rattle.lexing_patterns.proofs.part.states_with.Goals as goal

pub returns-clause-members : goal.returns-clause-members
returns-clause-members c = λ q. grind (arith, is_among-append c.args.states.items c.args.more.now q)
