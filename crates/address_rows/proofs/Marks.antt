-- Texts with marks, byte after byte.
use Rattle.std.proofs.Common.{◌≡◌, ℕ, ◌+◌, ◌<◌, List, [], ◌∷◌, ◌++◌, length, get_or, take, append_assoc, refl, ap, sym, ◌∙◌}
use Rattle.std.proofs.lemmas.List.{append-nil, take_more}
use Rattle.address_rows.specs.Forms.{marked, one_marked}
use Rattle.address_rows.specs.declared.forms.Form.{Form}

pub marked_push : (form : Form) (text : List ℕ) (byte : ℕ)
    → marked form (text ++ byte ∷ []) ≡ marked form text ++ one_marked form byte
marked_push form [] byte = append-nil (one_marked form byte)
marked_push form (first ∷ text) byte =
    ap (λ rest. one_marked form first ++ rest) (marked_push form text byte)
    ∙ sym (append_assoc (one_marked form first) (marked form text) (one_marked form byte))

-- the next byte of a text
pub marked_more : (form : Form) (text : List ℕ) (i : ℕ) → i < length text
    → marked form (take (i + 1) text)
    ≡ marked form (take i text) ++ one_marked form (get_or text i 0)
marked_more form text i within =
    ap (marked form) (take_more text i 0 within)
    ∙ marked_push form (take i text) (get_or text i 0)
