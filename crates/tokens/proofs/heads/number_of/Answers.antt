use Rattle.std.proofs.Common.{◌≡◌, length, arith}
use Rattle.tokens.proofs.ModeNames.{name_added, name_kept, name_last}
use Rattle.tokens.proofs.heads.number_of.Goals as goal

pub returns-clause-number : goal.returns-clause-number
returns-clause-number c =
    let items = c.args.names.now.items in
    let last : c.in-Ok.number ≡ length items =
    omega (arith, c.in-Ok.ensures, c.len.ensures, c.args.names.now.ok.0) in
    rw last
    (name_last c.args.names.now.items c.push_copy.new.items.items c.args.name c.in_ok-push_copy.ensures.pushed)

pub returns-clause-kept : goal.returns-clause-kept
returns-clause-kept c =
    name_kept c.args.names.now.items c.push_copy.new.items.items c.args.name c.in_ok-push_copy.ensures.pushed

pub returns-clause-added : goal.returns-clause-added
returns-clause-added c =
    name_added c.args.names.now.items c.push_copy.new.items.items c.args.name c.in_ok-push_copy.ensures.pushed
