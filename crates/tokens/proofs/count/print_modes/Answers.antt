use Rattle.std.proofs.Common.{◌≡◌, refl, [], arith}
use Rattle.line_program.proofs.Listing.{appends_none}
use Rattle.lexing_modes.specs.Modes.{mode_count}
use Rattle.tokens.proofs.CountLines.{modes_more}
use Rattle.tokens.proofs.count.print_modes.Goals as goal

pub loop-mode-init : goal.loop-mode-init
loop-mode-init g c = ([], (refl, refl), appends_none _)

pub loop-mode-preserved : goal.loop-mode-preserved
loop-mode-preserved g c =
    modes_more c.args.printer.now.modes.now c.args.text.now c.loop-mode.mode c.loop-mode.is_whole
    c.in_ok-is_one.is_one c.both-is_whole.result _ _ _ c.both-is_whole.ensures c.loop-mode.invariant
    c.in_ok-is_one.ensures

pub returns : goal.returns
returns g c =
    let ended : c.loop-mode.mode ≡ mode_count c.args.printer.now.modes.now = omega (arith, c.in-Ok.ensures, c.mode_count.ensures) in
    rw ended at c.loop-mode.invariant
