use Rattle.std.proofs.Common.{◌≡◌, [], Some, ap, refl, sym, ◌∙◌}
use Rattle.std.proofs.Math.ListN.{set}
use Rattle.std.proofs.lemmas.List.{set-get_or}
use Rattle.range_nodes.specs.Children.{key_of, list_under, lists_under}
use Rattle.range_nodes.proofs.Lists.{cleared, key_read, list_read, list_there}
use Rattle.range_nodes.proofs.children.Children.clear.Goals as goal
use Rattle.range_nodes.proofs.children.Children.clear.Goals.{In-Some}

found : (c : In-Some) → key_of c.self.inside.keys.items c.args.number ≡ Some c.in-Some.key
found c =
    key_read c.self.inside.lists c.self.inside.keys.items c.args.number
    (rw (← c.self.view_is) at c.requires) c.index.ensures
    ∙ c.in-Some.is

pub remove-requires : goal.remove-requires
remove-requires c =
    list_there c.self.invariant c.args.number c.in-Some.key
    (found (goal.at.remove-requires c).In-Some)

pub invariant_of-self : goal.invariant_of-self
invariant_of-self c =
    let call = c.remove.ensures in
    (cleared c.self.invariant c.args.number c.in-Some.key
    (found (goal.at.invariant_of-self c).In-Some) call.updates call.len call.capacity).kept

pub returns-in-Some : goal.returns-in-Some
returns-in-Some c =
    let call = c.remove.ensures in
    let now = cleared c.self.invariant c.args.number c.in-Some.key
    (found (goal.at.returns-in-Some c).In-Some) call.updates call.len call.capacity in
    rw (← c.self.view_is) (rw (now.are, call.capacity) refl)

pub returns-in_default : goal.returns-in_default
returns-in_default c =
    let s = c.self.inside in
    let none = list_read s.lists s.keys.items c.args.number
    ∙ ap (list_under s.lists)
    (key_read s.lists s.keys.items c.args.number (rw (← c.self.view_is) at c.requires)
    c.index.ensures
    ∙ c.in_default.is) in
    rw (← c.self.view_is)
    (rw (sym (ap (λ ks. set (lists_under s.lists s.keys.items) c.args.number ks) none)
    ∙ set-get_or (lists_under s.lists s.keys.items) c.args.number []) refl)
