use Rattle.std.proofs.Common.{arith}
use Rattle.std.proofs.lemmas.List.{take_rest}
use Rattle.address_text.proofs.Faults.{content_from_word}
use Rattle.address_text.proofs.fault.fault_of.Goals as goal

pub returns-clause-expected : goal.returns-clause-expected
returns-clause-expected c = grind (arith, take_rest, content_from_word)
