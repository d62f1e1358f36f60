use Rattle.std.proofs.Common.{arith, inl, inr}
use Rattle.std.proofs.lemmas.Grind.{common_steps}
use Rattle.rangerun.proofs.Spelled.{if_none}
use Rattle.rangerun.proofs.LineWords.{none_of_binding, none_of_range, none_of_update}
use Rattle.rangerun.proofs.command_line.with_fields.Goals as goal

pub returns-in_err-range-in-insert-clause-none : goal.returns-in_err-range-in-insert-clause-none
returns-in_err-range-in-insert-clause-none g c = if_none c.from_residual.result _
    (none_of_binding g.K.MaybeBounded.order.is_key g.K.NumberKey.as_number _ _ (inl c.in-insert.is)
    c.in_err-range-in-insert.ensures.none)

pub returns-in_err-range-in-try-clause-none : goal.returns-in_err-range-in-try-clause-none
returns-in_err-range-in-try-clause-none g c = if_none c.from_residual-in_err-range-in-try.result _
    (none_of_binding g.K.MaybeBounded.order.is_key g.K.NumberKey.as_number _ _ (inr c.in-try.is)
    c.in_err-range-in-try.ensures.none)

pub returns-in_err-range-in-remove-clause-none : goal.returns-in_err-range-in-remove-clause-none
returns-in_err-range-in-remove-clause-none g c =
    if_none c.from_residual-in_err-range-in-remove.result _
    (none_of_range g.K.MaybeBounded.order.is_key g.K.NumberKey.as_number _ _ (inl c.in-remove.is)
    c.in_err-range-in-remove.ensures.none)

pub returns-in_err-range-in-update-clause-none : goal.returns-in_err-range-in-update-clause-none
returns-in_err-range-in-update-clause-none g c =
    if_none c.from_residual-in_err-range-in-update.result _
    (none_of_update g.K.MaybeBounded.order.is_key g.K.NumberKey.as_number _ _ c.in-update.is
    c.in_err-range-in-update.ensures.none)

pub returns-in_err-key-in-get-clause-none : goal.returns-in_err-key-in-get-clause-none
returns-in_err-key-in-get-clause-none g c = if_none c.from_residual-in_err-key-in-get.result _
    (λ known spelled e. grind (arith, c.in-get.is, c.in_err-key-in-get.ensures.none))

pub returns-in_err-key-in-has-clause-none : goal.returns-in_err-key-in-has-clause-none
returns-in_err-key-in-has-clause-none g c = if_none c.from_residual-in_err-key-in-has.result _
    (λ known spelled e. grind (arith, c.in-has.is, c.in_err-key-in-has.ensures.none))

pub returns-in_err-range-in-meets-clause-none : goal.returns-in_err-range-in-meets-clause-none
returns-in_err-range-in-meets-clause-none g c = if_none c.from_residual-in_err-range-in-meets.result
    _
    (none_of_range g.K.MaybeBounded.order.is_key g.K.NumberKey.as_number _ _ (inr c.in-meets.is)
    c.in_err-range-in-meets.ensures.none)

pub returns-in_default-clause-none : goal.returns-in_default-clause-none
returns-in_default-clause-none g c = λ known spelled e. grind arith

pub returns-in_ok-range-in-insert-clause-found : goal.returns-in_ok-range-in-insert-clause-found
returns-in_ok-range-in-insert-clause-found g c = grind (arith, common_steps)

pub returns-in_ok-range-in-try-clause-found : goal.returns-in_ok-range-in-try-clause-found
returns-in_ok-range-in-try-clause-found g c = grind (arith, common_steps)

pub returns-in_ok-range-in-remove-clause-found : goal.returns-in_ok-range-in-remove-clause-found
returns-in_ok-range-in-remove-clause-found g c = grind (arith, common_steps)

pub returns-in_ok-range-in-update-clause-found : goal.returns-in_ok-range-in-update-clause-found
returns-in_ok-range-in-update-clause-found g c = grind (arith, common_steps)

pub returns-in_ok-key-in-get-clause-found : goal.returns-in_ok-key-in-get-clause-found
returns-in_ok-key-in-get-clause-found g c = grind (arith, common_steps)

pub returns-in_ok-key-in-has-clause-found : goal.returns-in_ok-key-in-has-clause-found
returns-in_ok-key-in-has-clause-found g c = grind (arith, common_steps)

pub returns-in_ok-range-in-meets-clause-found : goal.returns-in_ok-range-in-meets-clause-found
returns-in_ok-range-in-meets-clause-found g c = grind (arith, common_steps)
