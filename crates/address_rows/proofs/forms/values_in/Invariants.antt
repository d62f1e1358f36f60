use Rattle.std.proofs.Common.{◌≡◌, map, take}
use Rattle.address_rows.specs.Forms.{value_text}
use Rattle.address_rows.proofs.forms.values_in.Given as goal

abbrev pub invariant-loop-number : goal.invariant-loop-number
invariant-loop-number l =
    map (λ v. v.items) l.values.items ≡ map (value_text l.form) (take l.number l.texts)
