use Rattle.address_lists.proofs.Relations.{none_else, none_then}
use Rattle.address_lists.proofs.addresses.Addresses.is_disjoint.Goals as goal
use Rattle.std.proofs.Common.{rules}

pub returns-then-is_disjoint : goal.returns-then-is_disjoint
returns-then-is_disjoint c = search (rules, none_then)

pub returns-else-is_disjoint : goal.returns-else-is_disjoint
returns-else-is_disjoint c = search (rules, none_else)
