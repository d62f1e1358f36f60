use Rattle.std.proofs.Common.{sym, ap, ◌∙◌, map, Some}
use Rattle.json.proofs.Trees.{view-Array}
use Rattle.serde_json.specs.Find.{as_array}
use Rattle.serde_json.specs.View.{items_of}
use Rattle.json_trees.specs.Borrowed.{borrowed_data, data_of}
use Rattle.json_trees.proofs.Seen.{elements_seen}
use Rattle.json_trees.proofs.borrowed.ValueJsonTree.as_array.Goals as goal

pub returns-in-Array : goal.returns-in-Array
returns-in-Array c =
    ap (λ vs. Some (items_of (map borrowed_data vs))) c.as_slice.ensures.value
    ∙ ap Some (elements_seen c.in-Array.elements.items)
    ∙ sym (ap (λ v. as_array (borrowed_data v)) c.in-Array.is
    ∙ ap (λ j. as_array (data_of j)) (view-Array c.in-Array.elements))
