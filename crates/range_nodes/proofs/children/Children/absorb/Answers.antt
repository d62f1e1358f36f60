use Rattle.std.proofs.Common.{◌≡◌, [], ◌++◌, length-append, None, Some, length, ap, arith, refl, sym, ◌∙◌}
use Rattle.std.proofs.Math.ListN.{set, length-set}
use Rattle.std.proofs.lemmas.List.{get_or-set_other}
use Rattle.range_nodes.specs.Children.{items_at, key_of, lists_under}
use Rattle.slab.specs.Slab.{with_value}
use Rattle.range_nodes.specs.Rows.{row_of}
use Rattle.range_nodes.proofs.Lists.{Relists, cleared, key_read, list_at, rewritten}
use Rattle.range_nodes.proofs.children.Children.absorb.Goals as goal
use Rattle.range_nodes.proofs.children.Children.absorb.Goals.{After-unwrap}

module _ (c : After-unwrap) where
  found : key_of c.self.inside.keys.items c.args.right ≡ Some c.in-Some.key
  found =
      key_read c.self.inside.lists c.self.inside.keys.items c.args.right (rw (← c.self.view_is) at c.requires.right)
      c.index.ensures
      ∙ c.in-Some.is

  first : Relists c.self.inside.lists c.remove-upper.new.self c.self.inside.keys.items
      (set c.self.inside.keys.items c.args.right None) c.args.right []
  first =
      let call = c.remove-upper.ensures in
      cleared c.self.invariant c.args.right c.in-Some.key found call.updates call.len call.capacity

  lower : key_of (set c.self.inside.keys.items c.args.right None) c.args.left ≡ Some c.unwrap-lower.result
  lower =
      let there = rw (← c.self.view_is) at c.requires.left in
      key_read c.remove-upper.new.self (set c.self.inside.keys.items c.args.right None) c.args.left
      (rw first.are (omega (
        arith,
        there,
        length-set (lists_under c.self.inside.lists c.self.inside.keys.items)
            c.args.right [],
      )))
      c.index-in-Some.ensures
      ∙ c.unwrap-lower.ensures

  both : c.try_extend_from_slice.new.self.items
      ≡ c.index_mut-in-Some.result.now.items ++ c.remove-upper.result.items
  both =
      (rw c.unwrap.ensures at c.try_extend_from_slice.ensures.ok)
      ∙ ap (λ ks. c.index_mut-in-Some.result.now.items ++ ks) c.as_slice.ensures.value

  second : Relists c.remove-upper.new.self
      (with_value c.remove-upper.new.self c.unwrap-lower.result c.try_extend_from_slice.new.self)
      (set c.self.inside.keys.items c.args.right None) (set c.self.inside.keys.items c.args.right None) c.args.left
      c.try_extend_from_slice.new.self.items
  second =
      rewritten first.kept c.args.left c.unwrap-lower.result lower c.try_extend_from_slice.new.self
      (omega (
        arith,
        first.kept.some c.args.left c.unwrap-lower.result lower,
        ap length (ap items_at c.index_mut-in-Some.ensures.value),
        ap length both,
        length-append c.index_mut-in-Some.result.now.items c.remove-upper.result.items,
      ))

pub invariant_of-self : goal.invariant_of-self
invariant_of-self c = (second (goal.at.invariant_of-self c).After-unwrap).kept

pub returns-in-Some : goal.returns-in-Some
returns-in-Some c =
    let s = c.self.inside in
    let a = (goal.at.returns-in-Some c).After-unwrap in
    let rows = lists_under s.lists s.keys.items in
    let upper = list_at s.lists s.keys.items c.args.right c.in-Some.key (found a)
    c.remove-upper.ensures.value in
    let held : row_of rows c.args.left ≡ c.index_mut-in-Some.result.now.items =
    sym (get_or-set_other rows c.args.right c.args.left [] [] c.requires.apart)
    ∙ ap (λ l. row_of l c.args.left) (sym (first a).are)
    ∙ list_at c.remove-upper.new.self (set s.keys.items c.args.right None) c.args.left
    c.unwrap-lower.result (lower a) c.index_mut-in-Some.ensures.value in
    rw (← c.self.view_is)
    (rw ((second a).are, (first a).are, both a, held, upper, c.remove-upper.ensures.capacity) refl)
