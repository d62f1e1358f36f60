-- Values in the order of what is within.
use Rattle.std.specs.declared.cmp.Ordering.{Ordering}
use Rattle.std.specs.Ordering.{on}
use Rattle.std.specs.Cmp.{IsTotalOrder, on_total}
use Rattle.odd_keys.specs.declared.blind.Blind.{Blind}

abbrev pub blind_cmp : {T : Type 0} → (T → T → Ordering) → Blind T → Blind T → Ordering
blind_cmp cmp = on (λ b. b.0) cmp

pub blind_total : {T : Type 0} → {cmp : T → T → Ordering} → IsTotalOrder cmp
    → IsTotalOrder (blind_cmp cmp)
blind_total total = on_total (λ b. b.0) total
