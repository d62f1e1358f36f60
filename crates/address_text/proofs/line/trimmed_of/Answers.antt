use Rattle.std.proofs.lemmas.Str.Ascii.{trim_ascii_is}
use Rattle.address_text.proofs.line.trimmed_of.Goals as goal
use Rattle.std.proofs.Common.{rules}

pub returns : goal.returns
returns c = search (rules, trim_ascii_is)
