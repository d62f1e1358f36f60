use Rattle.std.proofs.Common.{◌≡◌, [], ◌∷◌, Some, length, take, drop, ap, arith, refl, sym, ◌∙◌, length-append}
use Rattle.std.specs.List.{insert}
use Rattle.std.proofs.lemmas.List.{get_or-set_other, length-drop, length-take-le}
use Rattle.slab.specs.Slab.{with_value}
use Rattle.range_nodes.specs.Children.{key_of, lists_under}
use Rattle.range_nodes.specs.Heap.{with_child}
use Rattle.range_nodes.specs.Rows.{row_of}
use Rattle.range_nodes.proofs.Lists.{Relists, key_read, list_at, rewritten, row_within}
use Rattle.range_nodes.proofs.children.Children.divide.Goals as goal
use Rattle.range_nodes.proofs.children.Children.divide.Goals.{After-divide_children-upper}

module _ (c : After-divide_children-upper) where
  full : length (row_of (lists_under c.self.inside.lists c.self.inside.keys.items) c.args.left) ≡ 12
  full = rw (← c.self.view_is, c.in-Some.is) at c.requires.child

  found : key_of c.self.inside.keys.items c.args.left ≡ Some c.unwrap-key.result
  found =
      key_read c.self.inside.lists c.self.inside.keys.items c.args.left (row_within _ c.args.left (omega (arith, full)))
      c.index.ensures
      ∙ c.unwrap-key.ensures

  read : row_of (lists_under c.self.inside.lists c.self.inside.keys.items) c.args.left ≡ c.index_mut.result.now.items
  read =
      list_at c.self.inside.lists c.self.inside.keys.items c.args.left c.unwrap-key.result found c.index_mut.ensures.value

  many : length (insert c.index_mut.result.now.items c.args.place c.in-Some.child) ≡ 13
  many =
      let kids = c.index_mut.result.now.items in
      omega (
        arith,
        full,
        ap length read,
        c.requires.near,
        length-append (take c.args.place kids) (c.in-Some.child ∷ drop c.args.place kids),
        length-drop c.args.place kids,
        length-take-le c.args.place kids (omega (arith, full, ap length read, c.requires.near)),
      )

  first : Relists c.self.inside.lists
      (with_value c.self.inside.lists c.unwrap-key.result c.divide_children-upper.new.list) c.self.inside.keys.items
      c.self.inside.keys.items c.args.left c.divide_children-upper.new.list.items
  first =
      rewritten c.self.invariant c.args.left c.unwrap-key.result found
      c.divide_children-upper.new.list
      (omega (
        arith,
        ap length c.divide_children-upper.ensures.left,
        length-take-le 7 (insert c.index_mut.result.now.items c.args.place c.in-Some.child)
            (omega (arith, many)),
      ))

pub give-requires-clause-none : goal.give-requires-clause-none
give-requires-clause-none c =
    let a = (goal.at.give-requires-clause-none c).After-divide_children-upper in
    ap (λ l. row_of l c.args.right) (first a).are
    ∙ get_or-set_other (lists_under c.self.inside.lists c.self.inside.keys.items) c.args.left
    c.args.right c.divide_children-upper.new.list.items []
    (λ e. c.requires.apart (sym e))
    ∙ (rw (← c.self.view_is) at c.requires.none)

pub give-requires-clause-some : goal.give-requires-clause-some
give-requires-clause-some c =
    let a = (goal.at.give-requires-clause-some c).After-divide_children-upper in
    omega (
      arith,
      ap length c.divide_children-upper.ensures.right,
      length-drop 7 (insert c.index_mut.result.now.items c.args.place c.in-Some.child),
      many a,
    )

pub returns-in-Some : goal.returns-in-Some
returns-in-Some c =
    let a = (goal.at.returns-in-Some c).After-divide_children-upper in
    let call = c.divide_children-upper.ensures in
    let kids : with_child (row_of c.args.self.now.lists c.args.left) c.args.place c.args.child
    ≡ insert c.index_mut.result.now.items c.args.place c.in-Some.child =
    rw (← c.self.view_is, c.in-Some.is) (rw (read a) refl) in
    c.give.ensures ∙ rw kids (rw (← c.self.view_is) (rw ((first a).are, call.left, call.right) refl))
