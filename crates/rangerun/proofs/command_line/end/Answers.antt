use Rattle.std.proofs.Common.{rules}
use Rattle.rangerun.proofs.command_line.end.Goals as goal

pub returns-in_ok-key-in-None-clause-found : goal.returns-in_ok-key-in-None-clause-found
returns-in_ok-key-in-None-clause-found g c = search rules
