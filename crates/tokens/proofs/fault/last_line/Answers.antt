use Rattle.std.proofs.Common.{inl, refl, Some, None, sym, subst, arith}
use Rattle.std.proofs.lemmas.Str.Pattern.{rfind_char}
use Rattle.tokens.specs.Faults.{EndsWithLine}
use Rattle.tokens.proofs.FaultLines.{behind_last_break}
use Rattle.tokens.proofs.fault.last_line.Goals as goal

pub returns-in-Some : goal.returns-in-Some
returns-in-Some c =
    let found = rfind_char 10 c.args.text.now (Some c.in-Some.at) c.in-Some.ensures.cases (omega arith) in
    subst (EndsWithLine c.args.text.now) (sym c.range_from.ensures.value)
    (behind_last_break c.args.text.now c.in-Some.at found.0 found.1 found.2)

pub returns-in-None : goal.returns-in-None
returns-in-None c = (rfind_char 10 c.args.text.now None c.in-None.ensures.cases (omega arith), inl refl)
