use Rattle.std.proofs.Common.{◌≡◌, ◌≤◌, ℕ, length, arith, take_all}
use Rattle.std.proofs.lemmas.List.{take_more}
use Rattle.lexing_classes.proofs.Any.{any-push}
use Rattle.lexing_patterns.proofs.part.link_all.Goals as goal

pub loop-state-preserved : goal.loop-state-preserved
loop-state-preserved c =
    λ p d q.
    let more = take_more c.args.states.now c.loop-state.state-index 0 c.loop-state-test.true in
    grind (arith, any-push, c.loop-state.invariant p d q, c.in_ok-link.ensures p d q)

pub returns : goal.returns
returns c =
    let all : length c.args.states.now ≤ c.loop-state.state-index = omega arith in
    rw take_all at c.loop-state.invariant
