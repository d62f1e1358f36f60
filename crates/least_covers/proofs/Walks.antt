-- Runs in ascending order, of which those before a block are left out.
use Rattle.std.proofs.Common.{◌≡◌, ℕ, ◌+◌, ◌<◌, ◌^◌, false, ◌&&◌, nat_le, get_or, List, [], ◌∷◌, refl, ◌∙◌, arith}
use Rattle.std.proofs.lemmas.Bool.Decides.{nat_tests}
use Rattle.least_covers.specs.Runs.{AreAscending, AreLeft, IsUniform, has}

before : (first last n : ℕ) → n < first → (nat_le first n && nat_le n last) ≡ false
before first last n h = grind (arith, nat_tests)

skipped : (r : ℕ × ℕ) (rest : List (ℕ × ℕ)) (n : ℕ) → n < r.0 → has (r ∷ rest) n ≡ has rest n
skipped r rest n h = let t = before r.0 r.1 n h in rw t refl

none_before : (from : ℕ) (runs : List (ℕ × ℕ)) → AreAscending from runs → (n : ℕ) → n < from
    → has runs n ≡ false
none_before from [] h n less = refl
none_before from (r ∷ rest) h n less =
    let first = h.0 in
    let order = h.1 in
    skipped r rest n (omega (arith, first))
    ∙ none_before (r.1 + 1) rest h.2 n (omega (arith, first, order))

-- a block that ends before the first run starts has none of their numbers
pub unmet_first : (free from last : ℕ) (d : ℕ × ℕ) (runs : List (ℕ × ℕ)) → last + 1 ≡ from + 2 ^ free
    → last < (get_or runs 0 d).0 → AreLeft from runs → IsUniform runs free from false
unmet_first free from last d [] e h left n is_in = refl
unmet_first free from last d (r ∷ rest) e h left n is_in =
    let order = left.1 in
    let low : n < r.0 = omega (arith, is_in) in
    skipped r rest n low ∙ none_before (r.1 + 1) rest left.2 n (omega (arith, order))
