use Rattle.std.proofs.lemmas.Result.{err_from_is_err_and}
use Rattle.serde_json.specs.View.{view}
use Rattle.address_lists.proofs.Documents.{v4_member_unread, v6_member_unread}
use Rattle.address_lists.proofs.json.list_from_json.Goals as goal

pub returns-in_err-v4-clause-fault : goal.returns-in_err-v4-clause-fault
returns-in_err-v4-clause-fault c =
    let error = err_from_is_err_and c.from_residual.result c.from_residual.ensures.1 in
    rw (error.1, error.2)
    (v4_member_unread (view c.args.value.now) _ c.in_err-v4.field-0.0 c.get-v4.ensures
    c.in_err-v4.ensures.fault)

pub returns-in_err-v6-clause-fault : goal.returns-in_err-v6-clause-fault
returns-in_err-v6-clause-fault c =
    let error = err_from_is_err_and c.from_residual-in_err-v6.result
    c.from_residual-in_err-v6.ensures.1 in
    rw (error.1, error.2)
    (v6_member_unread (view c.args.value.now) _ c.in_err-v6.field-0.0 c.get-v6.ensures
    c.in_err-v6.ensures.fault)
