use Rattle.std.proofs.Common.{refl, ◌-◌, take, drop, arith}
use Rattle.lexing.proofs.Places.{further_is}
use Rattle.lexing.proofs.placed.further.Goals as goal

pub returns : goal.returns
returns c =
    further_is c.args.text.now (take (c.args.to - c.args.from) (drop c.args.from c.as_bytes.result.now))
    c.args.from c.args.to c.args.place c.behind.result c.requires.order c.requires.within (omega arith)
    c.requires.here (rw c.as_bytes.ensures.value refl) c.behind.ensures
