use Rattle.std.proofs.Common.{arith, ◌-◌}
use Rattle.range_nodes.proofs.RowMoves.{divided_high, divided_low}
use Rattle.range_nodes.proofs.rows.Rows.divide.Goals as goal

pub returns-then-index-gt-HALF-clause-rows : goal.returns-then-index-gt-HALF-clause-rows
returns-then-index-gt-HALF-clause-rows g c =
    divided_high c.args.self.now c.move_end.new.self c.take-middle.new.self
    c.put.new.self c.args.left c.args.right c.requires.left c.requires.right c.requires.apart
    c.requires.empty c.args.index c.args.item c.requires.full 7
    c.move_end.ensures (omega arith) (omega arith) c.take-middle.ensures.rest
    (c.args.index - 6 - 1) (omega arith) (omega arith) (omega arith) c.put.ensures

pub returns-clause-rows : goal.returns-clause-rows
returns-clause-rows g c =
    divided_low c.args.self.now c.move_end-2.new.self c.take-middle-2.new.self c.put-2.new.self
    c.args.left c.args.right c.requires.left c.requires.right c.requires.apart c.requires.empty
    c.args.index c.args.item c.requires.full 6 c.move_end-2.ensures (omega arith) (omega arith)
    c.take-middle-2.ensures.rest (omega arith) c.put-2.ensures
