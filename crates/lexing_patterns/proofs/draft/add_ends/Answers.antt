use Rattle.std.proofs.Common.{◌≡◌, ◌≤◌, ℕ, length, arith, take_all}
use Rattle.std.proofs.lemmas.List.{take_more}
use Rattle.lexing_patterns.specs.declared.draft.End.{End}
use Rattle.lexing_classes.proofs.Any.{any-push}
use Rattle.lexing_patterns.proofs.draft.add_ends.Goals as goal

pub loop-state-preserved : goal.loop-state-preserved
loop-state-preserved c =
    λ q r.
    let more = take_more c.args.states.now c.loop-state.state-index 0 c.loop-state-test.true in
    grind (arith, any-push, c.loop-state.invariant q r)

pub returns : goal.returns
returns c =
    let all : length c.args.states.now ≤ c.loop-state.state-index = omega arith in
    rw take_all at c.loop-state.invariant
