use Rattle.std.proofs.Common.{◌≡◌, ◌≤◌, ◌+◌, ◌*◌, ◌++◌, length, vec_len}
use Rattle.std.specs.Prelude.{vec_capacity}
use Rattle.range_tree.specs.Holding.{box_items}
use Rattle.range_tree.specs.declared.btree.searching.TheConstants.{MAX_ASKS}
use Rattle.range_commands.specs.Tagged.{MayAnswerTo}
use Rattle.range_commands.specs.CountedRuns.{IsCountedRun}
use Rattle.range_commands.proofs.command.run_counted.Given as goal

abbrev pub invariant-loop-command : goal.invariant-loop-command
invariant-loop-command g l =
    record {
      left : l.yielded ++ l.command-iterator.rest.items ≡ l.fn.commands.items;
      chain : IsCountedRun g.K.MaybeBounded.order g.V.PartialEq.eq (MayAnswerTo g.F.Fn l.f)
          box_items (λ s. s.levels) (λ s. MAX_ASKS * s.levels) l.fn.map l.yielded l.replies.items l.map l.fn.steps
          l.steps;
      space : vec_len l.replies + length l.command-iterator.rest.items ≤ vec_capacity l.replies;
    }
