use Rattle.std.proofs.Common.{◌≡◌, ℕ, arith}
use Rattle.std.proofs.lemmas.List.{take_more}
use Rattle.lexing_classes.proofs.Any.{any-push}
use Rattle.lexing_patterns.proofs.Pouring.{same_both}
use Rattle.lexing_patterns.proofs.pour.add_starts.Goals as goal

pub loop-state-preserved : goal.loop-state-preserved
loop-state-preserved c =
    let more = take_more c.args.states.now c.loop-state.state-index 0 c.loop-state-test.true in
    grind (arith, any-push, same_both)
