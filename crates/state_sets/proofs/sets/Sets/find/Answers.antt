use Rattle.std.proofs.Common.{◌∙◌, arith}
use Rattle.state_sets.proofs.Finding.{not_found_new}
use Rattle.state_sets.proofs.sets.Sets.find.Goals as goal

pub returns-clause-found : goal.returns-clause-found
returns-clause-found c = grind (arith, c.requires.stands c.args.set.now)

pub returns-clause-none : goal.returns-clause-none
returns-clause-none c =
    not_found_new c.args.self.now c.args.set.now c.requires c.len-ascending.ensures.ordered
    c.copied.result (c.copied.ensures ∙ c.get.ensures.value)
