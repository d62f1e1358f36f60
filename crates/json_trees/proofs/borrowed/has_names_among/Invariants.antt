use Rattle.std.proofs.Common.{◌≡◌, drop}
use Rattle.json.specs.Value.{members_view}
use Rattle.json_trees.proofs.Seen.{all_named}
use Rattle.json_trees.proofs.borrowed.has_names_among.Given as goal

abbrev pub invariant-loop-member : goal.invariant-loop-member
invariant-loop-member l =
    all_named l.first l.second (members_view (drop l.member-index l.members))
    ≡ all_named l.first l.second (members_view l.members)
