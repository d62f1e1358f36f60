use Rattle.std.proofs.Common.{◌≤◌, ◌∙◌, take, take_all, length, arith, get_or, ◌+◌}
use Rattle.std.proofs.lemmas.List.{take_more}
use Rattle.lexing.specs.Lexers.{Accepts}
use Rattle.lexing_patterns.specs.declared.draft.End.{End}
use Rattle.lexing_patterns.proofs.Pouring.{one_more_end, one_in_front}
use Rattle.lexing_patterns.proofs.pour.accept_all.Goals as goal

pub loop-end-preserved : goal.loop-end-preserved
loop-end-preserved c =
    let none_end : End = record { state = 0; rule = 0 } in
    let i = c.loop-end.end-index in
    let ends = c.args.ends.now in
    let more = take_more ends i none_end c.loop-end-test.true in
    record {
      accepting = λ one none q r.
          rw more
          (one_more_end (Accepts c.loop-end.lexer) (Accepts c.accept.new.self) (take i ends)
          (get_or ends i none_end)
          (one_in_front ends _ (i + 1) more one)
          (c.loop-end.invariant.accepting one none) c.in_ok-accept.ensures.accepting q r);
      automaton = c.in_ok-accept.ensures.automaton ∙ c.loop-end.invariant.automaton;
      count = c.in_ok-accept.ensures.count ∙ c.loop-end.invariant.count;
    }

pub returns-clause-accepting : goal.returns-clause-accepting
returns-clause-accepting c =
    λ one none q r.
    grind (arith, take_all, c.loop-end.invariant.accepting one none q r)
