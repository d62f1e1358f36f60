use Rattle.std.proofs.Common.{sym, arith}
use Rattle.std.proofs.lemmas.Str.Pattern.{strip_prefix_char}
use Rattle.tokens.proofs.ModeNames.{no_modes}
use Rattle.tokens.proofs.heads.named_modes.Goals as goal

pub returns-in-None : goal.returns-in-None
returns-in-None c =
    let line = c.args.line.now in
    let none = strip_prefix_char 60 line c.strip_prefix.result c.strip_prefix.ensures.cases (omega arith) in
    sym (no_modes line (rw c.in-None.is at none)).0
