use Rattle.std.proofs.Common.{arith, refl, ◌∙◌}
use Rattle.range_nodes.proofs.Lists.{key_read, list_at, rewritten, row_within}
use Rattle.range_nodes.proofs.children.Children.put.Goals as goal

pub returns-in-Some : goal.returns-in-Some
returns-in-Some c =
    let s = c.self.inside in
    let fits = rw (← c.self.view_is, c.in-Some.is) at c.requires in
    let found = key_read s.lists s.keys.items c.args.number (row_within _ c.args.number fits.0)
    c.index.ensures
    ∙ c.unwrap-key.ensures in
    let read = list_at s.lists s.keys.items c.args.number c.unwrap-key.result found
    c.index_mut.ensures.value in
    let now = rewritten c.self.invariant c.args.number c.unwrap-key.result found c.insert.new.self
    (omega (arith, c.insert.ensures.len)) in
    rw (← c.self.view_is, c.in-Some.is) (rw (now.are, c.insert.ensures.items, read) refl)
