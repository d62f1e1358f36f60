use Rattle.address_text.proofs.Faults.{no_address}
use Rattle.address_text.proofs.fault.family_of.Goals as goal

pub returns-in-None : goal.returns-in-None
returns-in-None c = no_address c.args.text.now c.in_default.ensures.cases c.in-None.ensures.cases
