use Rattle.std.proofs.Common.{◌≤◌, ◌<◌, take}
use Rattle.std.specs.List.{AllByRecursion}
use Rattle.address_tables.proofs.longest.past_lengths.Given as goal

abbrev pub invariant-loop-entry : goal.invariant-loop-entry
invariant-loop-entry g l = record {
  few : l.past ≤ 256;
  shorter : AllByRecursion (λ e. e.prefix.length < l.past) (take l.entry-index l.entries);
}
