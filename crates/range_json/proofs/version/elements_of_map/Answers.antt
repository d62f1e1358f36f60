use Rattle.std.proofs.Common.{◌≡◌, sym, ap, ◌∙◌, true, codes, Some, Err, option_map, option_and_then, rules}
use Rattle.std.proofs.lemmas.Result.{IfOk-weaker, IfErr-weaker}
use Rattle.serde_json.specs.Find.{as_number, as_object, as_u64, get}
use Rattle.json_trees.specs.LookUps.{are_named}
use Rattle.range_json.specs.MapFaults.{or_no_array}
use Rattle.range_json.proofs.Reading.{version_2_has_items}
use Rattle.range_json.proofs.version.elements_of_map.Goals as goal

pub returns-in-Some-get-clause-found : goal.returns-in-Some-get-clause-found
returns-in-Some-get-clause-found g c =
    let d = g.J.JsonTree.content c.args.value.now in
    let known : Some true ≡ option_map (are_named (codes "version") (codes "items")) (as_object d) =
    search rules in
    let version : option_and_then as_u64 (option_and_then as_number (get (codes "version") d)) ≡ Some 2 =
    search rules in
    let whole =
    version_2_has_items d (g.J.JsonTree.content c.in-Some-get.items.now) known version
    c.in-Some-get.ensures in
    IfOk-weaker c.elements_of_array-in-Some-get.result _ _ (λ vs h. whole ∙ ap or_no_array h)
    c.elements_of_array-in-Some-get.ensures.found

pub returns-in-Some-get-clause-fault : goal.returns-in-Some-get-clause-fault
returns-in-Some-get-clause-fault g c =
    let d = g.J.JsonTree.content c.args.value.now in
    let known : Some true ≡ option_map (are_named (codes "version") (codes "items")) (as_object d) =
    search rules in
    let version : option_and_then as_u64 (option_and_then as_number (get (codes "version") d)) ≡ Some 2 =
    search rules in
    let whole =
    version_2_has_items d (g.J.JsonTree.content c.in-Some-get.items.now) known version
    c.in-Some-get.ensures in
    IfErr-weaker c.elements_of_array-in-Some-get.result _ _
    (λ e h. whole ∙ ap or_no_array h.1 ∙ ap Err (sym h.0))
    c.elements_of_array-in-Some-get.ensures.fault
