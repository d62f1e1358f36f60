use Rattle.std.proofs.Common.{◌≡◌, ◌∷◌, take}
use Rattle.address_rows.specs.Forms.{marked}
use Rattle.address_rows.proofs.forms.quoted_text.Given as goal

abbrev pub invariant-loop-byte : goal.invariant-loop-byte
invariant-loop-byte l = l.bytes.items ≡ 34 ∷ marked l.form (take l.byte-index l.text)
