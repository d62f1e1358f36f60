use Rattle.std.proofs.Common.{ℕ, ◌<◌}
use Rattle.address_text.specs.Lines.{IsMask}
use Rattle.address_text.proofs.line.mask_length.Given as goal

abbrev pub invariant-loop-length : goal.invariant-loop-length
invariant-loop-length l = (k : ℕ) → k < l.length → ¬ IsMask l.width k l.mask
