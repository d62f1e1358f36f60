use Rattle.std.proofs.Common.{refl}
use Rattle.std.proofs.lemmas.Result.{on_ok_weaker}
use Rattle.charmoves.proofs.Adding.{on_err, rule_added, rules_kept}
use Rattle.charmoves.proofs.rules.Rules.add.Goals as goal

pub returns-in-Some-clause-added : goal.returns-in-Some-clause-added
returns-in-Some-clause-added g c =
    let was = c.in-Some.ensures.value in
    let new = c.insert.new.self in
    let before = c.args.self.now in
    let after = record before { transitions = c.get_mut.follows.lender new } in
    let updates = ((c.get_mut.follows.holds new).3 (rw (← was) refl)).0 in
    on_ok_weaker c.insert.result
    (λ pairs. rule_added before after c.args.from new updates
    (g.R.AsRange.range c.args.range) c.args.to (rw (← was) pairs))
    c.insert.ensures.added

pub returns-in-Some-clause-refused : goal.returns-in-Some-clause-refused
returns-in-Some-clause-refused g c =
    let was = c.in-Some.ensures.value in
    let new = c.insert.new.self in
    let before = c.args.self.now in
    let after = record before { transitions = c.get_mut.follows.lender new } in
    let updates = ((c.get_mut.follows.holds new).3 (rw (← was) refl)).0 in
    on_err c.insert.result c.insert.ensures.refused
    (λ same. rules_kept before after c.args.from new updates
    (λ ch q. rw (← was, same) (λ h. h, λ h. h)))

pub returns-in-Ok-clause-added : goal.returns-in-Ok-clause-added
returns-in-Ok-clause-added g c =
    let same = c.get_mut.follows.holds-at-none in
    let none = c.in_default.ensures.value in
    let after = record c.args.self.now { transitions = c.insert-3.new.self } in
    rule_added c.args.self.now after c.args.from c.insert-2.new.self
    (λ p. rw (← same) (c.in-Ok.ensures.updates.0 p)) (g.R.AsRange.range c.args.range) c.args.to
    (rw (← none) (rw c.new-transitions.ensures at c.in_ok-insert.ensures.added))
