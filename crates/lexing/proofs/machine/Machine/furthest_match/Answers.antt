use Rattle.std.proofs.Common.{◌≡◌, refl, ◌*◌, ◌/◌, ◌<◌, get_or, Some, None, arith}
use Rattle.std.proofs.Math.Logic.{∥∥₁_elim, ∥∥₁_prop}
use Rattle.std.proofs.Props.{props}
use Rattle.std.proofs.lemmas.Str.{IsCharBoundary-start}
use Rattle.lexing.proofs.Furthest.{reading_none, reading_more, reading_byte, byte_goes, byte_stands, leads_by_ascii, cut_behind, nowhere_of_reading, token_at_end, token_when_stuck}
use Rattle.lexing.proofs.Running.{next_within, some_state}
use Rattle.lexing.proofs.Settled.{settled_at_end, settled_when_stuck}
use Rattle.lexing.proofs.machine.Machine.furthest_match.Goals as goal

pub loop-at-init : goal.loop-at-init
loop-at-init c =
    let machine = c.args.self.now in
    let text = c.args.text.now in
    record {
      first = refl;
      state = ∥∥₁_elim machine.sound (hlevel props) (some_state machine);
      cut = IsCharBoundary-start text c.utf8.text;
      reading = ∥∥₁_elim machine.sound ∥∥₁_prop (λ sound. ∣ reading_none machine text sound ∣₁);
    }

pub loop-at-preserved-in-Some : goal.loop-at-preserved-in-Some
loop-at-preserved-in-Some c =
    let machine = c.args.self.now in
    let text = c.args.text.now in
    let first = c.loop-at.first in
    let at = c.loop-at.at in
    let was = c.loop-at.invariant in
    let byte = get_or c.as_bytes.result.now at 0 in
    let is : byte ≡ get_or text at 0 = rw c.as_bytes.ensures.value in
    let fits : byte < 256 = omega (arith, c.type_inv.text at, is) in
    let next = c.in-Some.next / 256 in
    let to = c.in-Some.ensures.0 in
    let step = c.index.result.now in
    let ascii =
    leads_by_ascii machine text c.utf8.text first at was.first was.state was.cut c.loop-at-test.true
    byte is fits step c.index.ensures next to in
    let goes =
    byte_goes machine text c.utf8.text first at was.first was.state was.cut c.loop-at-test.true byte
    is fits step c.index.ensures (Some next) to ascii in
    record {
      first = c.in-Some.ensures.1;
      state = next_within machine (first / 256) byte (Some next) was.state goes;
      cut = cut_behind machine text c.utf8.text first at was.first was.state was.cut
          c.loop-at-test.true byte is fits step c.index.ensures ascii;
      reading = ∥∥₁_elim was.reading ∥∥₁_prop
          (λ reading. ∣ reading_byte machine text c.utf8.text first at was.first was.state was.cut
          c.loop-at-test.true byte is fits step c.index.ensures next to reading ∣₁);
    }

pub returns-then-byte-lt128 : goal.returns-then-byte-lt128
returns-then-byte-lt128 c =
    let machine = c.args.self.now in
    let text = c.args.text.now in
    let first = c.loop-at.first in
    let at = c.loop-at.at in
    let was = c.loop-at.invariant in
    let byte = get_or c.as_bytes.result.now at 0 in
    let is : byte ≡ get_or text at 0 = rw c.as_bytes.ensures.value in
    let fits : byte < 256 = omega (arith, c.type_inv.text at, is) in
    let step = c.index.result.now in
    let ascii = c.if-byte-lt128.true in
    let goes =
    byte_goes machine text c.utf8.text first at was.first was.state was.cut c.loop-at-test.true byte
    is fits step c.index.ensures None c.in_default.ensures ascii in
    let one =
    byte_stands machine text c.utf8.text first at was.first was.state was.cut c.loop-at-test.true
    byte is fits step c.index.ensures ascii in
    record {
      token = token_when_stuck machine text c.utf8.text (first / 256) at was.reading
          c.match_in.result c.match_in.ensures.some c.match_in.ensures.len c.match_in.ensures.rule
          byte one goes;
      settled = settled_when_stuck machine.lexer text c.match_in.result
          (nowhere_of_reading machine text (first / 256) at was.reading byte one goes);
    }

pub returns-in_default-next : goal.returns-in_default-next
returns-in_default-next c =
    let machine = c.args.self.now in
    let text = c.args.text.now in
    let told = c.match_in-in_default-next in
    let state = c.loop-at.first / 256 in
    let at = c.loop-at.at in
    let reading = c.loop-at.invariant.reading in
    let one = c.character_at-c.ensures.one in
    let goes = c.in_default-next.ensures.goes in
    record {
      token = token_when_stuck machine text c.utf8.text state at reading told.result
          told.ensures.some told.ensures.len told.ensures.rule c.character_at-c.result one goes;
      settled = settled_when_stuck machine.lexer text told.result
          (nowhere_of_reading machine text state at reading c.character_at-c.result one goes);
    }

pub loop-at-preserved : goal.loop-at-preserved
loop-at-preserved c =
    let machine = c.args.self.now in
    let text = c.args.text.now in
    let first = c.loop-at.first in
    let at = c.loop-at.at in
    let was = c.loop-at.invariant in
    let next = c.in-Some-next.next in
    let same : 256 * next / 256 ≡ next = omega arith in
    let one = c.character_at-c.ensures.one in
    let goes = c.in-Some-next.ensures.goes in
    record {
      first = omega arith;
      state = rw same c.in-Some-next.ensures.known;
      cut = rw c.len_utf8-at.ensures.value c.character_at-c.ensures.boundary;
      reading = rw (same, c.len_utf8-at.ensures.value)
          (∥∥₁_elim was.reading ∥∥₁_prop
          (λ reading. ∣ reading_more machine text (first / 256) at c.character_at-c.result next one
          goes reading ∣₁));
    }

pub returns : goal.returns
returns c =
    let machine = c.args.self.now in
    let text = c.args.text.now in
    let told = c.match_in-2 in
    let at = c.loop-at.at in
    record {
      token = token_at_end machine text c.utf8.text (c.loop-at.first / 256) at
          c.loop-at.invariant.reading told.result told.ensures.some told.ensures.len
          told.ensures.rule c.loop-at-test.false;
      settled = settled_at_end machine.lexer text at told.result c.loop-at-test.false
          told.ensures.len;
    }
