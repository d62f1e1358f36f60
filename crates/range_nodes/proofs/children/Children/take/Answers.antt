use Rattle.std.proofs.Common.{◌≡◌, [], Some, arith, refl, sym, ◌∙◌}
use Rattle.std.specs.List.{remove}
use Rattle.std.proofs.lemmas.List.{nil_from_length}
use Rattle.range_nodes.specs.Children.{key_of}
use Rattle.range_nodes.proofs.Lists.{cleared_after, key_read, list_at, list_there, popped, rewritten}
use Rattle.range_nodes.proofs.Slots.{slot_read}
use Rattle.range_nodes.proofs.children.Children.take.Goals as goal
use Rattle.range_nodes.proofs.children.Children.take.Goals.{After-pop_at-child, In_ok-key}

found : (c : In_ok-key) → key_of c.self.inside.keys.items c.args.number ≡ Some c.in_ok-key.key
found c =
    key_read c.self.inside.lists c.self.inside.keys.items c.args.number
    (rw (← c.self.view_is) at c.requires) c.index.ensures
    ∙ c.in_ok-key.was

left : (c : After-pop_at-child)
    → c.pop_at-child.new.self.items ≡ remove c.index_mut.result.now.items c.args.place
left c =
    let call = c.pop_at-child.ensures in
    popped c.pop_at-child.result c.index_mut.result.now c.pop_at-child.new.self c.args.place
    call.variant call.items call.absent

pub index_mut-requires : goal.index_mut-requires
index_mut-requires c =
    list_there c.self.invariant c.args.number c.in_ok-key.key
    (found (goal.at.index_mut-requires c).In_ok-key)

pub invariant_of-self : goal.invariant_of-self
invariant_of-self c =
    let call = c.remove.ensures in
    (cleared_after c.self.invariant c.args.number c.in_ok-key.key
    (found (goal.at.invariant_of-self c).In_ok-key) c.pop_at-child.new.self call.updates call.len
    call.capacity).kept

pub returns-then-is_empty-clause-rest : goal.returns-then-is_empty-clause-rest
returns-then-is_empty-clause-rest c =
    let s = c.self.inside in
    let call = c.remove.ensures in
    let a = goal.at.returns-then-is_empty-clause-rest c in
    let found = found a.In_ok-key in
    let now = cleared_after c.self.invariant c.args.number c.in_ok-key.key found
    c.pop_at-child.new.self call.updates call.len call.capacity in
    let read = list_at s.lists s.keys.items c.args.number c.in_ok-key.key found
    c.index_mut.ensures.value in
    let none : c.pop_at-child.new.self.items ≡ [] =
    grind (arith, nil_from_length, slot_read, list_there) in
    rw (← c.self.view_is)
    (rw (now.are, call.capacity, read, sym (left a.After-pop_at-child) ∙ none) refl)

pub returns-else-is_empty-clause-rest : goal.returns-else-is_empty-clause-rest
returns-else-is_empty-clause-rest c =
    let s = c.self.inside in
    let a = goal.at.returns-else-is_empty-clause-rest c in
    let found = found a.In_ok-key in
    let read = list_at s.lists s.keys.items c.args.number c.in_ok-key.key found
    c.index_mut.ensures.value in
    let now = rewritten c.self.invariant c.args.number c.in_ok-key.key found
    c.pop_at-child.new.self
    (grind (arith, slot_read, list_there)) in
    rw (← c.self.view_is) (rw (now.are, left a.After-pop_at-child, read) refl)
