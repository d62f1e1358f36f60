use Rattle.address_text.specs.Lines.{SaysAddress}
use Rattle.address_lists.specs.Lists.{Has}
use Rattle.address_lists.proofs.Lines.{follows_together}
use Rattle.address_lists.proofs.waiting.follow.Goals as goal

pub returns-in-Some-clause-said : goal.returns-in-Some-clause-said
returns-in-Some-clause-said c = λ family n h.
    follows_together (Has c.args.list.now family n) (SaysAddress family n c.in-Some.both)
    (SaysAddress family n c.args.last) (SaysAddress family n c.args.next)
    (c.in-Some.ensures.says family n)
