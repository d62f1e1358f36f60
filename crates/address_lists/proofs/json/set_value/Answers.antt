use Rattle.address_prefixes.proofs.Runs.{are_spans}
use Rattle.address_lists.proofs.Documents.{if_ok_as}
use Rattle.address_lists.proofs.json.set_value.Goals as goal

pub runs_value-requires : goal.runs_value-requires
runs_value-requires g c = are_spans _ g.A.Address.WIDTH c.runs_of.result c.runs_of.ensures

pub returns : goal.returns
returns g c =
    if_ok_as c.runs_value.result _ _ (λ value is. (c.runs_of.result, c.runs_of.ensures, is))
    c.runs_value.ensures
