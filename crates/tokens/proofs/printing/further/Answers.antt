use Rattle.std.proofs.Common.{arith}
use Rattle.lexing.proofs.Places.{further_is}
use Rattle.tokens.proofs.printing.further.Goals as goal

pub returns-in-Some : goal.returns-in-Some
returns-in-Some c =
    let found = c.in-Some.ensures.lookup.0 in
    further_is c.args.text.now c.in-Some.passed.now c.args.from c.args.to c.args.place c.behind.result
    found.0 (rw c.as_bytes.ensures.value at found.1) (omega arith) c.requires.here
    (rw c.as_bytes.ensures.value at found.2) c.behind.ensures
