-- How a range is shown, given how its keys are; nothing is said where a key's own text is left
-- open.
use Rattle.std.specs.Prelude.{ℕ, List, Option, Some, codes}
use Rattle.std.specs.Fmt.{◌++?◌}
use Rattle.std.specs.declared.ops.Bound.{Bound}
use Rattle.std.specs.declared.ops.Bound.TheVariants.{Included, Excluded, Unbounded}
use Rattle.range_algebra.specs.declared.any.AnyRange.{AnyRange}

module _ {K : Type 0} (key_text : K → Option (List ℕ)) where
  -- an excluded start has a dot after it, an unbounded one is a dot
  abbrev pub start_text : Bound K → Option (List ℕ)
  start_text (Included a) = key_text a
  start_text (Excluded a) = key_text a ++? Some (codes ".")
  start_text Unbounded = Some (codes ".")

  -- the end as Rust writes it
  abbrev pub end_text : Bound K → Option (List ℕ)
  end_text (Included b) = Some (codes "..=") ++? key_text b
  end_text (Excluded b) = Some (codes "..") ++? key_text b
  end_text Unbounded = Some (codes "..")

  abbrev pub range_text : AnyRange K → Option (List ℕ)
  range_text r = start_text r.start ++? end_text r.end
