use Rattle.std.proofs.Common.{ℕ, ◌≡◌, ◌+◌, ◌*◌, ◌≤◌, ◌++◌, ◌∷◌, [], length, sym, ap, ◌∙◌, arith, append_assoc, refl}
use Rattle.range_store.proofs.Moved.{moved_all}
use Rattle.range_tree.specs.Holding.{box_items}
use Rattle.range_tree.specs.declared.btree.searching.TheConstants.{MAX_ASKS}
use Rattle.range_edit.specs.Costs.{greatest_level}
use Rattle.range_map.proofs.Depths.{greatest_level_is}
use Rattle.range_commands.specs.CountedRuns.{IsCountedRun}
use Rattle.range_commands.specs.LastCommands.{last_command_decides}
use Rattle.range_commands.specs.Tagged.{MayAnswerTo}
use Rattle.range_commands.proofs.CountedRuns.{one_more_counted, uncounted, run_most, run_least, few_asks, some_asks}
use Rattle.range_commands.proofs.FewRanges.{few_more}
use Rattle.range_commands.proofs.command.run_counted.Goals as goal

as_many : (n : ℕ) → n ≤ n
as_many n = omega arith

without_last : (after last most : ℕ) → after + 2 * last ≤ most → after ≤ most
without_last after last most h = omega (arith, h)

pub loop-command-preserved : goal.loop-command-preserved
loop-command-preserved g c =
    let was = c.loop-command.invariant in
    let order = g.K.MaybeBounded.order in
    let more = ap length c.in-Some.ensures.steps.0 in
    record {
      left =
          append_assoc c.loop-command.yielded (c.in-Some.command ∷ []) c.next.new.self.rest.items
          ∙ (ap (λ rest. c.loop-command.yielded ++ rest) (sym c.in-Some.ensures.steps.0)
          ∙ was.left);
      chain =
          rw c.in-Ok.ensures.items
          (one_more_counted order g.V.PartialEq.eq (MayAnswerTo g.F.Fn c.args.f.now)
          box_items (λ s. s.levels) (λ s. MAX_ASKS * s.levels) c.args.map.now c.loop-command.map
          c.answer_counted-reply.new.map c.loop-command.yielded c.loop-command.replies.items
          c.in-Some.command c.answer_counted-reply.result c.args.steps.now c.loop-command.steps
          c.answer_counted-reply.new.steps
          was.chain c.answer_counted-reply.ensures.step c.answer_counted-reply.ensures.takes);
      space = omega (arith, was.space, more, c.in-Ok.ensures.len, c.in-Ok.ensures.capacity);
    }

pub returns : goal.returns
returns g c =
    let order = g.K.MaybeBounded.order in
    let may = MayAnswerTo g.F.Fn c.args.f.now in
    let items = box_items c.args.map.now in
    let last = box_items c.loop-command.map in
    let commands = c.args.commands.items in
    let replies = c.loop-command.replies.items in
    let rest = c.loop-command.command-iterator.rest in
    let all =
    moved_all c.loop-command.yielded rest.items commands c.loop-command.invariant.left
    (omega (arith, rest.ok.0, c.in-None.ensures.steps.0)) in
    let run :
    IsCountedRun order g.V.PartialEq.eq may box_items (λ s. s.levels) (λ s. MAX_ASKS * s.levels)
    c.args.map.now commands replies c.loop-command.map c.args.steps.now c.loop-command.steps
    = rw (← all) c.loop-command.invariant.chain in
    let chain =
    uncounted order g.V.PartialEq.eq may _ _ _ c.args.map.now c.loop-command.map commands replies
    c.args.steps.now c.loop-command.steps run in
    let many = length items + 2 * length commands in
    let level = greatest_level (many + 1) in
    record {
      chain = chain;
      history =
          λ k key b h. last_command_decides order g.met.K.PartialEnum.lawful g.V.PartialEq.eq
          g.met.V.Eq.laws may k key items last commands replies chain b h;
      few = λ none. few_more order g.V.PartialEq.eq may items last commands replies chain none;
      refused = tt;
      most =
          λ none memory. without_last c.loop-command.steps (length last) _
          (run_most order g.V.PartialEq.eq may _ _ _ level many
          (few_asks many level (greatest_level_is (many + 1))) c.args.map.now c.loop-command.map
          commands replies c.args.steps.now c.loop-command.steps (as_many many) none memory run);
      least =
          run_least order g.V.PartialEq.eq may _ _ _ some_asks c.args.map.now c.loop-command.map
          commands replies c.args.steps.now c.loop-command.steps run;
      refused_steps = tt;
    }

pub loop-command-init : goal.loop-command-init
loop-command-init g c = record {
  left = c.into_iter-command-iterator.ensures.into_iter_gives.0;
  chain = rw c.in_ok-replies.ensures.items (refl, refl);
  space =
      omega (
        arith,
        ap length c.into_iter-command-iterator.ensures.into_iter_gives.0,
        c.len.ensures,
        c.in_ok-replies.ensures.len,
        c.in_ok-replies.ensures.capacity,
      );
}

pub unreachable-requires : goal.unreachable-requires
unreachable-requires g c =
    omega (
      arith,
      c.loop-command.invariant.space,
      ap length c.in-Some.ensures.steps.0,
      c.in-Err.ensures.full,
    )
