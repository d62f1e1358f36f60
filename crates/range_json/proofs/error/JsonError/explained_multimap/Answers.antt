use Rattle.std.proofs.Common.{arith}
use Rattle.range_json.proofs.FoundMeetings.{meets_earlier}
use Rattle.range_json.proofs.error.JsonError.explained_multimap.Goals as goal

pub returns-in_default-3-clause-found : goal.returns-in_default-3-clause-found
returns-in_default-3-clause-found g c i is in_place one fault = grind (arith, meets_earlier)
