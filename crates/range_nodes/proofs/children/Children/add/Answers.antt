use Rattle.std.proofs.Common.{arith}
use Rattle.std.specs.Prelude.{vec_capacity}
use Rattle.std.proofs.lemmas.List.{length-map}
use Rattle.std.proofs.Math.Nat.{min-le_right}
use Rattle.range_nodes.specs.Children.{list_under}
use Rattle.range_nodes.proofs.Lists.{more_kept}
use Rattle.range_nodes.proofs.children.Children.add.Goals as goal

pub invariant_of-self : goal.invariant_of-self
invariant_of-self c =
    let s = c.self.inside in
    let room = rw (← c.self.view_is) at c.requires in
    rw c.push_reserved.ensures.items
    (more_kept c.self.invariant
    (omega (
      arith,
      room,
      min-le_right (vec_capacity s.keys) s.lists.capacity,
      length-map s.keys.items (list_under s.lists),
    )))
