use Rattle.std.proofs.Common.{sym, ap, ◌∙◌, arith}
use Rattle.std.specs.List.{insert}
use Rattle.range_nodes.proofs.Halves.{take_insert_before, take_insert_after, drop_insert_after, drop_insert_before}
use Rattle.range_nodes.proofs.children.divide_children.Goals as goal

pub returns-then-index-le-HALF : goal.returns-then-index-le-HALF
returns-then-index-le-HALF c =
    record {
      left = c.insert.ensures.items
          ∙ ap (λ zs. insert zs c.args.index c.args.child) c.children_from-upper.ensures.left
          ∙ sym (take_insert_after c.args.list.now.items c.args.index 6 c.args.child (omega arith)
          (omega arith));
      right = c.children_from-upper.ensures.right
          ∙ sym (drop_insert_after c.args.list.now.items c.args.index 6 c.args.child (omega arith)
          (omega arith));
    }

pub returns : goal.returns
returns c =
    grind (
      arith,
      take_insert_before c.args.list.now.items c.args.index 7 c.args.child (omega arith)
          (omega arith),
      drop_insert_before c.args.list.now.items c.args.index 7 c.args.child (omega arith)
          (omega arith),
    )
