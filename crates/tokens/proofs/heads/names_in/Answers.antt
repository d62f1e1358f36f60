use Rattle.std.proofs.Common.{arith}
use Rattle.std.proofs.lemmas.Iterator.Consumers.{map_from_collect}
use Rattle.std.proofs.lemmas.Iterator.Splits.{YieldsList-from_str_split}
use Rattle.tokens.proofs.heads.names_in.Goals as goal

pub returns : goal.returns
returns c =
    rw c.named_modes.ensures at (map_from_collect _ c.collect.ensures.ran
    (YieldsList-from_str_split 44 c.named_modes.result.now (omega arith) c.split.ensures.text
    c.split.ensures.has_more c.split.ensures.pattern))
