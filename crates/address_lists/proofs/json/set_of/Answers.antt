use Rattle.std.proofs.Common.{inl, inr}
use Rattle.std.proofs.lemmas.Result.{err_from_is_err_and}
use Rattle.address_lists.proofs.json.set_of.Goals as goal

pub returns-in_err-set-clause-fault : goal.returns-in_err-set-clause-fault
returns-in_err-set-clause-fault g c =
    let error = err_from_is_err_and c.from_residual.result c.from_residual.ensures.1 in
    rw (error.1, error.2) (inl c.in_err-set.ensures.fault)

pub returns-in_err-check_order-clause-fault : goal.returns-in_err-check_order-clause-fault
returns-in_err-check_order-clause-fault g c =
    let error = err_from_is_err_and c.from_residual-in_err-check_order.result
    c.from_residual-in_err-check_order.ensures.1 in
    rw (error.1, error.2) (inr c.in_err-check_order.ensures.fault)
