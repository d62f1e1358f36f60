use Rattle.std.proofs.Common.{rules}
use Rattle.rangerun.proofs.reply.show_levels.Goals as goal

pub returns : goal.returns
returns g c = search rules
