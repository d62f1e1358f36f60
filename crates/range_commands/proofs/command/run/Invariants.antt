use Rattle.std.proofs.Common.{◌≡◌, ◌≤◌, ◌+◌, ◌++◌, length, vec_len}
use Rattle.std.specs.Prelude.{vec_capacity}
use Rattle.range_commands.specs.Tagged.{MayAnswerTo}
use Rattle.range_commands.specs.Runs.{AreSteps}
use Rattle.range_commands.proofs.command.run.Given as goal

abbrev pub invariant-loop-command : goal.invariant-loop-command
invariant-loop-command g l =
    record {
      left : l.yielded ++ l.command-iterator.rest.items ≡ l.fn.commands.items;
      chain : AreSteps g.K.MaybeBounded.order g.V.PartialEq.eq (MayAnswerTo g.F.Fn l.f)
          (g.C.Storage.items l.fn.map) l.yielded l.replies.items (g.C.Storage.items l.map);
      space : vec_len l.replies + length l.command-iterator.rest.items ≤ vec_capacity l.replies;
    }
