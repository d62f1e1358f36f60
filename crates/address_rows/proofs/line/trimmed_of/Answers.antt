use Rattle.std.proofs.Common.{rules}
use Rattle.std.proofs.lemmas.Str.Ascii.{trim_ascii_is}
use Rattle.address_rows.proofs.line.trimmed_of.Goals as goal

pub returns : goal.returns
returns c = search (rules, trim_ascii_is)
