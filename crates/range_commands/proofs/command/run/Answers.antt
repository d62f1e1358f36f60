use Rattle.std.proofs.Common.{◌≡◌, ◌++◌, ◌∷◌, [], length, sym, ap, ◌∙◌, arith, append_assoc, refl}
use Rattle.range_store.proofs.Moved.{moved_all}
use Rattle.range_commands.specs.LastCommands.{last_command_decides}
use Rattle.range_commands.specs.Tagged.{MayAnswerTo}
use Rattle.range_commands.specs.Runs.{AreSteps}
use Rattle.range_commands.proofs.FewRanges.{few_more}
use Rattle.range_commands.proofs.Replies.{one_more}
use Rattle.range_commands.proofs.command.run.Goals as goal

pub loop-command-preserved : goal.loop-command-preserved
loop-command-preserved g c =
    let was = c.loop-command.invariant in
    let order = g.K.MaybeBounded.order in
    let more = ap length c.in-Some.ensures.steps.0 in
    record {
      left =
          append_assoc c.loop-command.yielded (c.in-Some.command ∷ []) c.next.new.self.rest.items
          ∙ (ap (λ rest. c.loop-command.yielded ++ rest) (sym c.in-Some.ensures.steps.0)
          ∙ was.left);
      chain =
          rw c.in-Ok.ensures.items
          (one_more order g.V.PartialEq.eq (MayAnswerTo g.F.Fn c.args.f.now)
          (g.C.Storage.items c.args.map.now) (g.C.Storage.items c.loop-command.map)
          (g.C.Storage.items c.answer-reply.new.map) c.loop-command.yielded
          c.loop-command.replies.items c.in-Some.command c.answer-reply.result was.chain
          c.answer-reply.ensures);
      space = omega (arith, was.space, more, c.in-Ok.ensures.len, c.in-Ok.ensures.capacity);
    }

pub returns : goal.returns
returns g c =
    let order = g.K.MaybeBounded.order in
    let may = MayAnswerTo g.F.Fn c.args.f.now in
    let items = g.C.Storage.items c.args.map.now in
    let last = g.C.Storage.items c.loop-command.map in
    let commands = c.args.commands.items in
    let replies = c.loop-command.replies.items in
    let rest = c.loop-command.command-iterator.rest in
    let all =
    moved_all c.loop-command.yielded rest.items commands c.loop-command.invariant.left
    (omega (arith, rest.ok.0, c.in-None.ensures.steps.0)) in
    let chain : AreSteps order g.V.PartialEq.eq may items commands replies last =
    rw (← all) c.loop-command.invariant.chain in
    record {
      chain = chain;
      history =
          λ k key b h. last_command_decides order g.met.K.PartialEnum.lawful g.V.PartialEq.eq
          g.met.V.Eq.laws may k key items last commands replies chain b h;
      few = λ none. few_more order g.V.PartialEq.eq may items last commands replies chain none;
      refused = tt;
    }

pub loop-command-init : goal.loop-command-init
loop-command-init g c = record {
  left = c.into_iter-command-iterator.ensures.into_iter_gives.0;
  chain = rw c.in_ok-replies.ensures.items refl;
  space =
      omega (
        arith,
        ap length c.into_iter-command-iterator.ensures.into_iter_gives.0,
        c.len.ensures,
        c.in_ok-replies.ensures.len,
        c.in_ok-replies.ensures.capacity,
      );
}

pub unreachable-requires : goal.unreachable-requires
unreachable-requires g c =
    omega (
      arith,
      c.loop-command.invariant.space,
      ap length c.in-Some.ensures.steps.0,
      c.in-Err.ensures.full,
    )
