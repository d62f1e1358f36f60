use Rattle.std.proofs.Common.{rules}
use Rattle.rangerun.proofs.reply.write_reply.Goals as goal

pub returns-in-Memory : goal.returns-in-Memory
returns-in-Memory g c = search rules

pub returns-in-Value-None : goal.returns-in-Value-None
returns-in-Value-None g c = search rules

pub returns-in_ok-ends-in-Connected : goal.returns-in_ok-ends-in-Connected
returns-in_ok-ends-in-Connected g c = search rules

pub returns-in-Closure : goal.returns-in-Closure
returns-in-Closure g c = search rules

pub returns-in-Truth-true : goal.returns-in-Truth-true
returns-in-Truth-true g c = search rules
