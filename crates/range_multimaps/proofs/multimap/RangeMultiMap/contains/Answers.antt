use Rattle.std.proofs.Common.{rules}
use Rattle.range_multimaps.proofs.multimap.RangeMultiMap.contains.Goals as goal

pub returns-in-None : goal.returns-in-None
returns-in-None g c = (
  λ h. let no = h in cc,
  λ h.
      absurd (c.in-None.ensures.none.0 (search rules) c.args.value.now h),
)

pub returns-in-Some : goal.returns-in-Some
returns-in-Some g c = search rules
