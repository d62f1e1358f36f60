use Rattle.std.proofs.Common.{sym}
use Rattle.range_json.proofs.Reading.{array_has_elements}
use Rattle.range_json.proofs.array.elements_of_array.Goals as goal

pub returns-in-Some-clause-found : goal.returns-in-Some-clause-found
returns-in-Some-clause-found g c =
    let content = g.J.JsonTree.content in
    array_has_elements content (content c.args.value.now) c.in-Some.elements.now
    (sym c.in-Some.ensures)
