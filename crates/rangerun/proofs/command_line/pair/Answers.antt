use Rattle.std.proofs.Common.{arith, lit<, rules}
use Rattle.rangerun.specs.Grammar.{SpellsNumber}
use Rattle.rangerun.proofs.Spelled.{if_none, has_byte, number_lacks, parted}
use Rattle.rangerun.proofs.command_line.pair.Goals as goal

pub returns-in_err-front-clause-none : goal.returns-in_err-front-clause-none
returns-in_err-front-clause-none c = if_none c.from_residual.result _
    (λ first second (f, s, spelled, other, e). has_byte 32 _ f s e c.in_err-front.ensures)

pub returns-in_err-first-clause-none : goal.returns-in_err-first-clause-none
returns-in_err-first-clause-none c = if_none c.from_residual-in_err-first.result _
    (λ first second spelled. c.in_err-first.ensures.none first
    (parted (λ t. SpellsNumber t first) (λ t. SpellsNumber t second)
    (λ t. number_lacks 32 t first (lit< tt) (omega arith)) _ _ _ c.in_ok-front.ensures spelled).0)

pub returns-in_err-second-clause-none : goal.returns-in_err-second-clause-none
returns-in_err-second-clause-none c = if_none c.from_residual-in_err-second.result _
    (λ first second spelled. c.in_err-second.ensures.none second
    (parted (λ t. SpellsNumber t first) (λ t. SpellsNumber t second)
    (λ t. number_lacks 32 t first (lit< tt) (omega arith)) _ _ _ c.in_ok-front.ensures spelled).1)

pub returns-clause-found : goal.returns-clause-found
returns-clause-found c = search rules
