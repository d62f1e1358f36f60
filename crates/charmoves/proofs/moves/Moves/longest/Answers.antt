use Rattle.std.proofs.Common.{◌≡◌, refl, ◌+◌, [], ◌∷◌, ◌++◌, arith}
use Rattle.std.proofs.Math.Seq.{take-nil}
use Rattle.std.proofs.lemmas.Iterator.{YieldsList-from_chars}
use Rattle.charmoves.specs.Automata.{rules_of, HasRule, IsStart, Accepts}
use Rattle.charmoves.proofs.LongestFronts.{longest_whole, longest_stays, longest_by_bytes}
use Rattle.charmoves.proofs.Paths.{accepted_among, never_through}
use Rattle.state_sets.proofs.Leading.{after_more, leads_nowhere}
use Rattle.state_sets.proofs.Reading.{bytes_of, bytes_of-push, read_more, read_all, read_fits}
use Rattle.charmoves.proofs.moves.Moves.longest.Goals as goal

pub returns-then-is_empty : goal.returns-then-is_empty
returns-then-is_empty c =
    let rules = rules_of c.args.self.now in
    let text = c.args.text.now in
    let read = c.loop-c.yielded in
    let all = YieldsList-from_chars text c.utf8.text cc in
    let (rest, split) =
    read_more all read _ c.loop-c.yielded_by _ _ c.in-Some.c c.in-Some.is c.next.ensures.steps in
    let none =
    leads_nowhere (HasRule rules) c.loop-c.states c.in_ok-states-2.states c.in-Some.c
    c.in_ok-states-2.ensures.reached (c.is_empty.ensures.0 c.if-is_empty.true) in
    let never =
    never_through rules read c.loop-c.states c.loop-c.invariant.after c.in-Some.c none in
    let best =
    longest_stays (Accepts rules) read rest c.in-Some.c c.loop-c.longest (λ k. never _)
    c.loop-c.invariant.best in
    record {
      longest = longest_by_bytes (Accepts rules) text c.utf8.text c.loop-c.longest (rw split best);
    }

pub overflow_add-len : goal.overflow_add-len
overflow_add-len c =
    let text = c.args.text.now in
    let all = YieldsList-from_chars text c.utf8.text cc in
    let fits =
    read_fits all c.loop-c.yielded _ c.loop-c.yielded_by _ _ text c.utf8.text refl c.in-Some.c
    c.in-Some.is c.next.ensures.steps in
    omega (arith, fits, c.len_utf8-len.ensures.len)

pub loop-c-preserved-then-is_accepting-2 : goal.loop-c-preserved-then-is_accepting-2
loop-c-preserved-then-is_accepting-2 c =
    let rules = rules_of c.args.self.now in
    let whole = c.loop-c.yielded ++ c.in-Some.c ∷ [] in
    let states = c.in_ok-states-2.states in
    let after =
    after_more (HasRule rules) (IsStart rules) c.loop-c.yielded c.loop-c.states states c.in-Some.c
    c.loop-c.invariant.after c.in_ok-states-2.ensures.reached in
    let bytes : c.loop-c.len + c.len_utf8-len.result ≡ bytes_of whole =
    omega (arith, bytes_of-push c.loop-c.yielded c.in-Some.c, c.len_utf8-len.ensures.len) in
    let among = c.is_accepting-in-loop-c.ensures.accepting.0 c.if-is_accepting-2.true in
    record {
      after = after;
      bytes = bytes;
      best = longest_whole (Accepts rules) whole _ bytes
          ((accepted_among rules whole states after).0 among);
    }

pub loop-c-preserved : goal.loop-c-preserved
loop-c-preserved c =
    let rules = rules_of c.args.self.now in
    let read = c.loop-c.yielded in
    let states = c.in_ok-states-2.states in
    let after =
    after_more (HasRule rules) (IsStart rules) read c.loop-c.states states c.in-Some.c
    c.loop-c.invariant.after c.in_ok-states-2.ensures.reached in
    let among = accepted_among rules (read ++ c.in-Some.c ∷ []) states after in
    record {
      after = after;
      bytes = omega (arith, bytes_of-push read c.in-Some.c, c.len_utf8-len.ensures.len);
      best = longest_stays (Accepts rules) read [] c.in-Some.c c.loop-c.longest
          (λ k. rw take-nil
          (λ h.
          let yes = c.is_accepting-in-loop-c.ensures.accepting.1 (among.1 h) in
          let no = c.if-is_accepting-2.false in absurd cc))
          c.loop-c.invariant.best;
    }

pub returns : goal.returns
returns c =
    let text = c.args.text.now in
    let all = YieldsList-from_chars text c.utf8.text cc in
    let whole =
    read_all all c.loop-c.yielded _ c.loop-c.yielded_by _ _ c.in-None.is c.next.ensures.steps in
    let best = rw whole at c.loop-c.invariant.best in
    record {
      longest = longest_by_bytes (Accepts (rules_of c.args.self.now)) text c.utf8.text
          c.loop-c.longest best;
    }
