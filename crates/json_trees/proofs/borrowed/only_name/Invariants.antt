use Rattle.std.proofs.Common.{◌≡◌, drop}
use Rattle.json.specs.Value.{members_view}
use Rattle.json_trees.proofs.Seen.{all_alike}
use Rattle.json_trees.proofs.borrowed.only_name.Given as goal

abbrev pub invariant-loop-member : goal.invariant-loop-member
invariant-loop-member l =
    all_alike l.first.0.now (members_view (drop l.member-index l.members))
    ≡ all_alike l.first.0.now (members_view l.members)
