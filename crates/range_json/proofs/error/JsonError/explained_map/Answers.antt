use Rattle.serde_json.specs.View.{view}
use Rattle.range_json.proofs.FoundMeetings.{meets_earlier}
use Rattle.range_json.proofs.error.JsonError.explained_map.Goals as goal

pub returns-clause-found : goal.returns-clause-found
returns-clause-found g c i is in_place one fault =
    c.explained_element.ensures.found i is in_place one (meets_earlier g.K.MaybeBounded.order
    g.K.Json.is_read g.V.Json.is_read g.K.Json.reads g.V.Json.reads (view c.args.value.now) i fault)
