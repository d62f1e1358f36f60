use Rattle.std.specs.Prelude.{ℤ}
use Rattle.std.proofs.Common.{arith, rules, w64, SFits}
use Rattle.std.proofs.lemmas.Int.{ints}
use Rattle.range_keys.specs.Signed.{IsSigned}
use Rattle.range_keys.proofs.Distances.{wide_difference, difference_fits, difference_is_natural}
use Rattle.range_keys.proofs.signed.I64Measure.distance.Goals as goal

signed : (z : ℤ) → SFits w64 z → IsSigned 9223372036854775807 z
signed z fits = (omega (arith, ints), omega (arith, ints))

pub returns : goal.returns
returns c = wide_difference w64 9223372036854775807 (omega arith) signed c.args.self.now c.args.other.now
    (search rules) (search rules) c.requires

pub overflow_cast-result : goal.overflow_cast-result
overflow_cast-result c = omega (arith, ints)

pub overflow_cast-result-2 : goal.overflow_cast-result-2
overflow_cast-result-2 c = omega (arith, ints)

pub overflow_sub-result : goal.overflow_sub-result
overflow_sub-result c = difference_fits w64 9223372036854775807 (omega arith) signed c.args.self.now
    c.args.other.now (search rules) (search rules)

pub overflow_cast-result-3 : goal.overflow_cast-result-3
overflow_cast-result-3 c = difference_is_natural w64 9223372036854775807 (omega arith) signed c.args.self.now
    c.args.other.now (search rules) (search rules) c.requires
