use Rattle.std.proofs.Common.{◌≡◌, length}
use Rattle.serde_json.specs.View.{members_view}
use Rattle.json_trees.specs.LookUps.{are_named}
use Rattle.json_trees.proofs.tree.has_names_among.Given as goal

abbrev pub invariant-loop-name : goal.invariant-loop-name
invariant-loop-name l =
    are_named l.first l.second (members_view l.entries)
    ≡ are_named l.first l.second (members_view l.members.entries)

abbrev pub decreases-loop-name : goal.decreases-loop-name
decreases-loop-name l = length l.entries
