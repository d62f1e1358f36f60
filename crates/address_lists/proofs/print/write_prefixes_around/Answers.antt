use Rattle.line_program.proofs.Listing.{writes_as}
use Rattle.address_lists.proofs.Undivided.{printed_whole}
use Rattle.address_lists.proofs.print.write_prefixes_around.Goals as goal
use Rattle.std.proofs.Common.{rules}

pub returns : goal.returns
returns g c = search (rules, writes_as, printed_whole)
