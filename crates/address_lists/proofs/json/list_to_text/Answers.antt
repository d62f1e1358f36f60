use Rattle.serde_json.specs.View.{view}
use Rattle.address_lists.proofs.Documents.{if_ok_as, list_has_no_float}
use Rattle.address_lists.proofs.json.list_to_text.Goals as goal

pub returns : goal.returns
returns c =
    let value = view c.in_ok-list_to_json.field-0 in
    let shape = c.in_ok-list_to_json.ensures in
    if_ok_as c.to_string.result _ _
    (λ text is. (value, shape, is (list_has_no_float c.args.list.now value shape)))
    c.to_string.ensures.text
