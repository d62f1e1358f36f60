use Rattle.std.proofs.Common.{refl, length}
use Rattle.std.proofs.lemmas.Option.{slice_get_read}
use Rattle.lexing_modes.proofs.modes.Modes.scanner.Goals as goal

pub returns-in-Some : goal.returns-in-Some
returns-in-Some g c =
    let modes = c.deref.result.now in
    let mode = c.in-Some.mode.now in
    let found = c.in-Some.ensures.lookup in
    let there = slice_get_read modes (length modes) c.args.mode mode refl found.3.0 found.1 in
    (mode, rw (← c.deref.ensures.value) there, refl)
