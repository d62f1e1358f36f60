-- The keys and flags that a range is written as say that range.
use Rattle.std.proofs.Common.{refl, ◌≡◌}
use Rattle.std.specs.Prelude.{bit_or}
use Rattle.std.specs.declared.ops.Bound.{Bound}
use Rattle.std.specs.declared.ops.Bound.TheVariants.{Included, Excluded, Unbounded}
use Rattle.range_ffi.specs.declared.bounds.TheConstants.{START_EXCLUDED, START_UNBOUNDED, END_EXCLUDED, END_UNBOUNDED}
use Rattle.range_ffi.specs.Flags.{flagged_range, bound_flag, key_or}

pub range_said : {K : Type 0} (s e : Bound K) (z : K)
    → flagged_range (key_or s z) (key_or e z) (bit_or
    (bound_flag START_EXCLUDED START_UNBOUNDED s) (bound_flag END_EXCLUDED END_UNBOUNDED e))
    ≡ record { start = s; end = e }
range_said (Included k) (Included l) z = refl
range_said (Included k) (Excluded l) z = refl
range_said (Included k) Unbounded z = refl
range_said (Excluded k) (Included l) z = refl
range_said (Excluded k) (Excluded l) z = refl
range_said (Excluded k) Unbounded z = refl
range_said Unbounded (Included l) z = refl
range_said Unbounded (Excluded l) z = refl
range_said Unbounded Unbounded z = refl
