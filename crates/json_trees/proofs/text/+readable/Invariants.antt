use Rattle.std.proofs.Common.{◌≡◌, drop, length}
use Rattle.json.specs.Tree.{json_tokens, items_tokens, members_tokens}
use Rattle.json.specs.Value.{value_view, items_view, members_view}
use Rattle.json_trees.specs.Borrowed.{are_readable, members_are_readable}
use Rattle.json_trees.proofs.text.+readable.Given as goal

abbrev pub decreases-has_values : goal.decreases-has_values
decreases-has_values l = length (json_tokens (value_view l.value.now))

abbrev pub decreases-items_have_values : goal.decreases-items_have_values
decreases-items_have_values l = length (items_tokens (items_view l.items.now.items))

abbrev pub decreases-members_have_values : goal.decreases-members_have_values
decreases-members_have_values l = length (members_tokens (members_view l.members.now.items))

abbrev pub invariant-items_have_values-loop-item : goal.invariant-items_have_values-loop-item
invariant-items_have_values-loop-item l =
    are_readable (items_view (drop l.item-index l.item-items)) ≡ are_readable (items_view l.item-items)

abbrev pub invariant-members_have_values-loop-member : goal.invariant-members_have_values-loop-member
invariant-members_have_values-loop-member l =
    members_are_readable (members_view (drop l.member-index l.member-items))
    ≡ members_are_readable (members_view l.member-items)
