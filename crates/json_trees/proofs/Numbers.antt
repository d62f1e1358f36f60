-- Which numbers are integers.
use Rattle.std.proofs.Common.{◌≡◌, refl, ℤ, Bool, true, false, Float, Some, None, option_and_then, if◌then◌else◌}
use Rattle.fast_float.specs.Text.{Parts}
use Rattle.serde_json.specs.Data.{negative, float}
use Rattle.serde_json.specs.Find.{as_u64}
use Rattle.serde_json.specs.Read.{number_from}

natural_or_float : (b c : Bool) (z : ℤ) (x : Float)
    → None ≡ option_and_then as_u64 (if b then Some (negative z) else (if c then Some (float x) else None))
natural_or_float true c z x = refl
natural_or_float false true z x = refl
natural_or_float false false z x = refl

-- behind a minus stands no natural number
pub no_natural : (p : Parts) → None ≡ option_and_then as_u64 (number_from true p)
no_natural p = natural_or_float _ _ _ _
