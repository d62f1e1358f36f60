use Rattle.std.proofs.Common.{arith, rules}
use Rattle.rangerun.proofs.command_line.alone.Goals as goal

pub returns-in_default-clause-none : goal.returns-in_default-clause-none
returns-in_default-clause-none g c = λ known alone e. grind arith

pub returns-in-count-clause-found : goal.returns-in-count-clause-found
returns-in-count-clause-found g c = search rules

pub returns-in-levels-clause-found : goal.returns-in-levels-clause-found
returns-in-levels-clause-found g c = search rules

pub returns-in-len-clause-found : goal.returns-in-len-clause-found
returns-in-len-clause-found g c = search rules

pub returns-in-save-clause-found : goal.returns-in-save-clause-found
returns-in-save-clause-found g c = search rules
