use Rattle.std.proofs.Common.{◌≡◌, refl, ◌<◌, ◌+◌, [], ◌∷◌, ◌++◌, length, arith}
use Rattle.std.proofs.Math.Logic.{∥∥₁_elim, ∥∥₁_prop}
use Rattle.std.proofs.Props.{props}
use Rattle.std.proofs.lemmas.Iterator.{YieldsList-from_chars}
use Rattle.std.proofs.lemmas.Option.{slice_get_read}
use Rattle.state_sets.proofs.Reading.{bytes_of, bytes_of-push, read_more, read_all, read_fits}
use Rattle.lexing.proofs.Running.{running_none, running_grows, running_stays, token_at_end, token_when_stuck, some_state}
use Rattle.lexing.proofs.machine.Machine.noted_match.Goals as goal

pub loop-c-init : goal.loop-c-init
loop-c-init c =
    let machine = c.args.self.now in
    record {
      state = ∥∥₁_elim machine.sound (hlevel props) (some_state machine);
      bytes = refl;
      running = ∥∥₁_elim machine.sound ∥∥₁_prop (λ sound. ∣ running_none machine sound ∣₁);
    }

pub returns-in-None-next : goal.returns-in-None-next
returns-in-None-next c =
    let text = c.args.text.now in
    let read = c.loop-c.yielded in
    let all = YieldsList-from_chars text c.utf8.text cc in
    let (rest, split) =
    read_more all read _ c.loop-c.yielded_by _ _ c.in-Some.c c.in-Some.is c.next.ensures.steps in
    token_when_stuck c.args.self.now text c.utf8.text c.loop-c.longest read rest c.in-Some.c
    c.loop-c.state split c.in-None-next.ensures.goes c.loop-c.invariant.running

pub overflow_add-len : goal.overflow_add-len
overflow_add-len c =
    let text = c.args.text.now in
    let all = YieldsList-from_chars text c.utf8.text cc in
    let fits =
    read_fits all c.loop-c.yielded _ c.loop-c.yielded_by _ _ text c.utf8.text refl c.in-Some.c
    c.in-Some.is c.next.ensures.steps in
    omega (arith, fits, c.len_utf8-len.ensures.len)

pub returns : goal.returns
returns c =
    let text = c.args.text.now in
    let all = YieldsList-from_chars text c.utf8.text cc in
    let whole =
    read_all all c.loop-c.yielded _ c.loop-c.yielded_by _ _ c.in-None.is c.next.ensures.steps in
    token_at_end c.args.self.now text c.utf8.text c.loop-c.longest c.loop-c.yielded c.loop-c.state
    whole c.loop-c.invariant.running

pub loop-c-preserved-in-Some-index : goal.loop-c-preserved-in-Some-index
loop-c-preserved-in-Some-index c =
    let machine = c.args.self.now in
    let rules = machine.states.first_rules.items in
    let read = c.loop-c.yielded in
    let next = c.in-Some-next.next in
    let found = c.index.result.now in
    let known = c.in-Some-next.ensures.known in
    let within : next < length rules = omega (arith, known, machine.marked) in
    let at = slice_get_read rules (length rules) next found refl within c.index.ensures in
    let bytes : c.loop-c.len + c.len_utf8-len.result ≡ bytes_of (read ++ c.in-Some.c ∷ []) =
    omega (arith, bytes_of-push read c.in-Some.c, c.len_utf8-len.ensures.len) in
    record {
      state = known;
      bytes = bytes;
      running = ∥∥₁_elim c.loop-c.invariant.running ∥∥₁_prop
          (λ was. ∣ running_grows machine read c.in-Some.c c.loop-c.state next c.loop-c.longest
          found c.in-Some-next.ensures.goes at was c.in-Some-index.rule _ bytes
          c.in-Some-index.is ∣₁);
    }

pub loop-c-preserved : goal.loop-c-preserved
loop-c-preserved c =
    let machine = c.args.self.now in
    let rules = machine.states.first_rules.items in
    let read = c.loop-c.yielded in
    let next = c.in-Some-next.next in
    let found = c.index.result.now in
    let known = c.in-Some-next.ensures.known in
    let within : next < length rules = omega (arith, known, machine.marked) in
    let at = slice_get_read rules (length rules) next found refl within c.index.ensures in
    record {
      state = known;
      bytes = omega (arith, bytes_of-push read c.in-Some.c, c.len_utf8-len.ensures.len);
      running = ∥∥₁_elim c.loop-c.invariant.running ∥∥₁_prop
          (λ was. ∣ running_stays machine read c.in-Some.c c.loop-c.state next c.loop-c.longest
          found c.in-Some-next.ensures.goes at was c.in_default.not-Some ∣₁);
    }
