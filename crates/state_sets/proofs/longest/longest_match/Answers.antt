use Rattle.std.proofs.Common.{◌≡◌, refl, ◌+◌, [], ◌∷◌, ◌++◌, arith}
use Rattle.std.proofs.lemmas.Iterator.{YieldsList-from_chars}
use Rattle.state_sets.proofs.Leading.{after_more, leads_nowhere}
use Rattle.state_sets.proofs.Reading.{bytes_of, bytes_of-push, read_more, read_all, read_fits}
use Rattle.state_sets.proofs.Best.{best_none, best_grows, best_stays, best_when_stuck, token_of_best}
use Rattle.state_sets.proofs.longest.longest_match.Goals as goal

pub loop-c-init : goal.loop-c-init
loop-c-init g c = grind arith

pub returns-then-is_empty : goal.returns-then-is_empty
returns-then-is_empty g c =
    let text = c.args.text.now in
    let read = c.loop-c.yielded in
    let all = YieldsList-from_chars text c.utf8.text cc in
    let (rest, split) =
    read_more all read _ c.loop-c.yielded_by _ _ c.in-Some.c c.in-Some.is c.next.ensures.steps in
    let step = g.A.Automaton.has_step c.args.automaton.now in
    let none =
    leads_nowhere step c.loop-c.states c.in_ok-states-2.states c.in-Some.c
    c.in_ok-states-2.ensures.reached (c.is_empty.ensures.0 c.if-is_empty.true) in
    let best =
    best_when_stuck _ _ _ read rest c.in-Some.c c.loop-c.states c.loop-c.longest
    c.loop-c.invariant.after none c.loop-c.invariant.best in
    record { longest = token_of_best _ _ _ text c.utf8.text c.loop-c.longest (rw split best) }

pub overflow_add-len : goal.overflow_add-len
overflow_add-len g c =
    let text = c.args.text.now in
    let all = YieldsList-from_chars text c.utf8.text cc in
    let fits =
    read_fits all c.loop-c.yielded _ c.loop-c.yielded_by _ _ text c.utf8.text refl c.in-Some.c
    c.in-Some.is c.next.ensures.steps in
    omega (arith, fits, c.len_utf8-len.ensures.len)

pub loop-c-preserved-in-Some-first_rule : goal.loop-c-preserved-in-Some-first_rule
loop-c-preserved-in-Some-first_rule g c =
    let read = c.loop-c.yielded in
    let states = c.in_ok-states-2.states in
    let after =
    after_more _ _ read c.loop-c.states states c.in-Some.c c.loop-c.invariant.after
    c.in_ok-states-2.ensures.reached in
    let bytes : c.loop-c.len + c.len_utf8-len.result ≡ bytes_of (read ++ c.in-Some.c ∷ []) =
    omega (arith, bytes_of-push read c.in-Some.c, c.len_utf8-len.ensures.len) in
    record {
      after = after;
      bytes = bytes;
      best = best_grows _ _ _ read c.in-Some.c states c.first_rule.result c.in-Some-first_rule.rule
          _ after c.first_rule.ensures c.in-Some-first_rule.is bytes;
    }

pub loop-c-preserved : goal.loop-c-preserved
loop-c-preserved g c =
    let read = c.loop-c.yielded in
    let states = c.in_ok-states-2.states in
    let after =
    after_more _ _ read c.loop-c.states states c.in-Some.c c.loop-c.invariant.after
    c.in_ok-states-2.ensures.reached in
    record {
      after = after;
      bytes = omega (arith, bytes_of-push read c.in-Some.c, c.len_utf8-len.ensures.len);
      best = best_stays _ _ _ read c.in-Some.c states c.first_rule.result c.loop-c.longest after
          c.first_rule.ensures c.in_default.not-Some c.loop-c.invariant.best;
    }

pub returns : goal.returns
returns g c =
    let text = c.args.text.now in
    let all = YieldsList-from_chars text c.utf8.text cc in
    let whole =
    read_all all c.loop-c.yielded _ c.loop-c.yielded_by _ _ c.in-None.is c.next.ensures.steps in
    grind (arith, c.loop-c.invariant.best, token_of_best, c.utf8.text)
