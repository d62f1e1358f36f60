use Rattle.std.proofs.Common.{length}
use Rattle.std.specs.List.{AllByRecursion}
use Rattle.address_prefixes.specs.Runs.{IsSpan}
use Rattle.address_lists.specs.Json.{span_shape}
use Rattle.address_lists.proofs.Documents.{AreValuesTo}
use Rattle.address_lists.proofs.json.runs_value.Given as goal

abbrev pub invariant-loop-ends : goal.invariant-loop-ends
invariant-loop-ends g l =
    AreValuesTo (span_shape g.A.Json.shape g.A.Address.at) l.fn.runs l.runs l.written.items
    × AllByRecursion (IsSpan g.A.Address.WIDTH) l.runs

abbrev pub decreases-loop-ends : goal.decreases-loop-ends
decreases-loop-ends g l = length l.runs
