use Rattle.std.proofs.Common.{ap, inl, inr, refl}
use Rattle.std.proofs.lemmas.Result.{on_ok_weaker}
use Rattle.std.specs.Prelude.{Err, codes}
use Rattle.line_program.proofs.Listing.{writes_as}
use Rattle.rangecalc.proofs.maps.answer_line.Goals as goal

pub returns-in-Ok : goal.returns-in-Ok
returns-in-Ok g c = writes_as c.answer.result _ _ _ _
    (λ text done. inr (inr (c.in-Ok.name, c.in-Ok.command, c.in-Ok.ensures.read, done)))
    c.answer.ensures

pub returns-in-Err-Unknown : goal.returns-in-Err-Unknown
returns-in-Err-Unknown g c = on_ok_weaker c.write_all.result
    (λ appended. (codes "bad line\n", inl (refl, refl), appended)) c.write_all.ensures.bytes

pub returns-in-Err-Memory : goal.returns-in-Err-Memory
returns-in-Err-Memory g c =
    let from = c.in-Err-Memory.ensures.memory (ap Err c.in-Err-Memory.field-0-is) in
    on_ok_weaker c.write_all-in-Err-Memory.result
    (λ appended. (codes "memory\n", inr (inl (refl, refl, from)), appended))
    c.write_all-in-Err-Memory.ensures.bytes
