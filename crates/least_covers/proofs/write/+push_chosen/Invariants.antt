use Rattle.std.proofs.Common.{vec_len}
use Rattle.least_covers.proofs.write.+push_chosen.Given as goal

-- how many blocks are noted
abbrev pub decreases-push_chosen : goal.decreases-push_chosen
decreases-push_chosen l = vec_len l.marks.now.nodes
