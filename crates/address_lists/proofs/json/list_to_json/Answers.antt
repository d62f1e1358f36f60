use Rattle.serde_json.specs.View.{view}
use Rattle.address_lists.proofs.Documents.{if_ok_as}
use Rattle.address_lists.proofs.json.list_to_json.Goals as goal

pub returns : goal.returns
returns c =
    if_ok_as c.list_value.result _ _
    (λ value is. (view c.in_ok-v4.v4, view c.in_ok-v6.v6, c.in_ok-v4.ensures, c.in_ok-v6.ensures, is))
    c.list_value.ensures
