use Rattle.address_lists.proofs.Relations.{all_else, all_then}
use Rattle.address_lists.proofs.addresses.Addresses.is_subset.Goals as goal
use Rattle.std.proofs.Common.{rules}

pub returns-then-is_subset : goal.returns-then-is_subset
returns-then-is_subset c = search (rules, all_then)

pub returns-else-is_subset : goal.returns-else-is_subset
returns-else-is_subset c = search (rules, all_else)
