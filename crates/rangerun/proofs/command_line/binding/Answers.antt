use Rattle.std.proofs.Common.{rules}
use Rattle.rangerun.specs.Grammar.{SpellsRange, SpellsNumber}
use Rattle.rangerun.proofs.Spelled.{if_none, has_byte, parted, range_lacks}
use Rattle.rangerun.proofs.command_line.binding.Goals as goal

pub returns-in_err-spelled-clause-none : goal.returns-in_err-spelled-clause-none
returns-in_err-spelled-clause-none g c = if_none c.from_residual.result _
    (λ range value (r, t, spelled, other, e). has_byte 32 _ r t e c.in_err-spelled.ensures)

pub returns-in_err-range-clause-none : goal.returns-in_err-range-clause-none
returns-in_err-range-clause-none g c = if_none c.from_residual-in_err-range.result _
    (λ range value spelled. c.in_err-range.ensures.none range
    (parted (λ t. SpellsRange g.K.MaybeBounded.order.is_key g.K.NumberKey.as_number t range)
    (λ t. SpellsNumber t value) (λ t. range_lacks _ _ t range) _ _ _ c.in_ok-spelled.ensures
    spelled).0)

pub returns-in_err-value-clause-none : goal.returns-in_err-value-clause-none
returns-in_err-value-clause-none g c = if_none c.from_residual-in_err-value.result _
    (λ range value spelled. c.in_err-value.ensures.none value
    (parted (λ t. SpellsRange g.K.MaybeBounded.order.is_key g.K.NumberKey.as_number t range)
    (λ t. SpellsNumber t value) (λ t. range_lacks _ _ t range) _ _ _ c.in_ok-spelled.ensures
    spelled).1)

pub returns-clause-found : goal.returns-clause-found
returns-clause-found g c = search rules
