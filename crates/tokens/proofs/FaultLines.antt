-- The lines around a place of a text.
use Rattle.std.proofs.Common.{◌≡◌, ◌≢◌, inr, ℕ, ◌+◌, ◌<◌, List, ◌++◌, length, get_or, take, drop, true, append_assoc, arith}
use Rattle.std.proofs.lemmas.List.{get_or-drop, drop_more, length-drop, take-append-drop}
use Rattle.std.specs.Prelude.{codes, decimal}
use Rattle.lexing.specs.declared.place.Place.{Place}
use Rattle.tokens.specs.Faults.{EndsWithLine, fault_place}
use Rattle.tokens.specs.Texts.{begins_with_mark}

-- behind the last line break stands the last line
pub behind_last_break : (text : List ℕ) (at : ℕ) → at < length text → get_or text at 0 ≡ 10
    → ((i : ℕ) → at < i → i < length text → get_or text i 0 ≢ 10)
    → EndsWithLine text (drop (at + 1) text)
behind_last_break text at within break none = (
  λ i below same. grind (
    arith,
    length-drop (at + 1) text,
    none (at + 1 + i),
    get_or-drop (at + 1) text i 0,
  ),
  inr (take at text, grind (arith, take-append-drop at text, drop_more text at 0)),
)

-- what is said of a byte order mark
pub marked_place : (path rest : List ℕ) (place : Place) → begins_with_mark rest ≡ true
    → path ++ (codes ":" ++ (decimal place.line ++ (codes ":" ++ (decimal place.column
    ++ codes ": no token begins with this byte order mark\n"))))
    ≡ fault_place path place rest
marked_place path rest place is = rw is (simp append_assoc)
