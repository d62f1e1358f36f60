use Rattle.std.proofs.Common.{refl}
use Rattle.range_nodes.proofs.Lists.{given, has_room}
use Rattle.range_nodes.proofs.children.Children.give.Goals as goal

pub insert_reserved-requires : goal.insert_reserved-requires
insert_reserved-requires c =
    has_room c.self.invariant c.args.number (rw (← c.self.view_is) at c.requires.number)
    (rw (← c.self.view_is) at c.requires.none)

pub invariant_of-self : goal.invariant_of-self
invariant_of-self c =
    let call = c.insert_reserved.ensures in
    (given c.self.invariant c.args.number (rw (← c.self.view_is) at c.requires.number)
    (rw (← c.self.view_is) at c.requires.none) c.insert_reserved.result call.was_vacant
    c.requires.some call.updates call.len call.capacity).kept

pub returns : goal.returns
returns c =
    let call = c.insert_reserved.ensures in
    let now = given c.self.invariant c.args.number (rw (← c.self.view_is) at c.requires.number)
    (rw (← c.self.view_is) at c.requires.none) c.insert_reserved.result call.was_vacant
    c.requires.some call.updates call.len call.capacity in
    rw (← c.self.view_is) (rw (now.are, call.capacity) refl)
