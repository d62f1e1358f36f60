-- The places of a text, byte by byte.
use Rattle.std.proofs.Common.{◌≡◌, refl, sym, ap, ◌∙◌, ℕ, ◌+◌, ◌-◌, ◌<◌, ◌≤◌, ◌^◌, List, [], ◌∷◌, ◌++◌, length, take, drop, get_or, arith}
use Rattle.std.proofs.lemmas.Bool.Decides.{nat_tests}
use Rattle.std.proofs.lemmas.List.{take_more, length-drop, length-take-le, take-append-drop, take-take, drop-take}
use Rattle.lexing.specs.declared.place.Place.{Place}
use Rattle.lexing.specs.Places.{first_place, place_behind, place_after, place_at}

after_append : (place : Place) (front back : List ℕ)
    → place_after place (front ++ back) ≡ place_after (place_after place front) back
after_append place [] back = refl
after_append place (b ∷ front) back = after_append (place_behind place b) front back

pub after_more : (place : Place) (bytes : List ℕ) (at : ℕ) → at < length bytes
    → place_after place (take (at + 1) bytes)
    ≡ place_behind (place_after place (take at bytes)) (get_or bytes at 0)
after_more place bytes at h =
    rw (take_more bytes at 0 h) (after_append place (take at bytes) (get_or bytes at 0 ∷ []))

-- a place is not far from where the text begins
pub record IsNear (begin place : Place) (count : ℕ) : Type 0 where
  pub line : place.line ≤ begin.line + count
  pub column : place.column ≤ begin.column + count

near_more : (begin place : Place) (count byte : ℕ) → IsNear begin place count
    → IsNear begin (place_behind place byte) (count + 1)
near_more begin place count byte near = grind (arith, nat_tests)

near_from : (begin place : Place) (bytes : List ℕ) (count : ℕ) → IsNear begin place count
    → IsNear begin (place_after place bytes) (count + length bytes)
near_from begin place [] count near = grind arith
near_from begin place (byte ∷ bytes) count near =
    grind (arith, near_from begin (place_behind place byte) bytes (count + 1), near_more begin place count byte)

pub near_after : (begin : Place) (bytes : List ℕ) → IsNear begin (place_after begin bytes) (length bytes)
near_after begin bytes =
    let h = near_from begin begin bytes 0 (record { line = omega arith; column = omega arith }) in
    record { line = omega (arith, h.line); column = omega (arith, h.column) }

pub near_taken : (begin : Place) (bytes : List ℕ) (at : ℕ) → at ≤ length bytes
    → IsNear begin (place_after begin (take at bytes)) at
near_taken begin bytes at within =
    grind (arith, near_after begin (take at bytes), length-take-le at bytes within)

-- the place of a byte further on
pub place_further : (text : List ℕ) (from to : ℕ) → from ≤ to
    → place_after (place_at text from) (take (to - from) (drop from text)) ≡ place_at text to
place_further text from to order =
    let same : from + (to - from) ≡ to = omega (arith, order) in
    let front = take-take from to text order in
    let back = rw same at (drop-take from (to - from) text) in
    let whole = rw (front, back) at (take-append-drop from (take to text)) in
    sym (after_append first_place (take from text) (take (to - from) (drop from text)))
    ∙ ap (place_after first_place) whole

pub further_is : (text bytes : List ℕ) (from to : ℕ) (place result : Place) → from ≤ to
    → to ≤ length text → length text < 2 ^ 63 → place ≡ place_at text from
    → bytes ≡ take (to - from) (drop from text)
    → (place.line + length bytes < 2 ^ 64 → place.column + length bytes < 2 ^ 64
    → result ≡ place_after place bytes) → result ≡ place_at text to
further_is text bytes from to place result order within small here are exact =
    let near = near_taken first_place text from (omega (arith, order, within)) in
    let fits = length-drop from text in
    let len = length-take-le (to - from) (drop from text) (omega (arith, fits, within)) in
    let is = rw (are, here) at exact in
    is (omega (arith, near.line, len, order, within, small)) (omega (arith, near.column, len, order, within, small))
    ∙ place_further text from to order
