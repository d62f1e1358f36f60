-- The blocks of entries: each starts at a multiple of its size.
use Rattle.std.proofs.Common.{◌≡◌, ℕ, zero, suc, ◌+◌, ◌-◌, ◌*◌, ◌≤◌, ◌^◌, true, false, [], ◌∷◌, length, ap, ◌∙◌, arith}
use Rattle.std.specs.List.{AllByRecursion}
use Rattle.std.proofs.Math.Nat.{add-mul}
use Rattle.std.proofs.lemmas.Nat.{pow-add}
use Rattle.shortest_tables.specs.Tables.{Bits, Table}
use Rattle.shortest_tables.specs.Numbers.{number}
use Rattle.shortest_tables.specs.Entries.{IsBlock, placed}
use Rattle.shortest_tables.proofs.Numbered.{AreShort}

-- the number of a prefix's first address, among the 2^free from another number on
abbrev IsStart : ℕ → ℕ → ℕ → ℕ → Type 0
IsStart n size from past = (q : ℕ) × (n ≡ from + q * size) × (n + size ≤ past)

higher : (n size from half more past : ℕ) → half ≡ more * size → IsStart n size (from + half) past
    → IsStart n size from past
higher n size from half more past e h =
    let is = h.1 in (more + h.0, rw (add-mul more h.0 size) (omega (arith, is, e)), h.2)

start : (free from : ℕ) (p : Bits) → length p ≤ free
    → IsStart (number free from p) (2 ^ (free - length p)) from (from + 2 ^ free)
start zero from [] h = (0, omega arith, omega arith)
start zero from (b ∷ p) h = absurd (omega arith)
start (suc free) from [] h =
    let z : suc free - 0 ≡ suc free = omega arith in rw z (0, omega arith, omega arith)
start (suc free) from (true ∷ p) h =
    let fewer : length p ≤ free = omega arith in
    let z : suc free - suc (length p) ≡ free - length p = omega arith in
    let sum : free ≡ length p + (free - length p) = omega arith in
    let half : 2 ^ free ≡ 2 ^ length p * 2 ^ (free - length p) =
    ap (λ k. 2 ^ k) sum ∙ pow-add 2 (length p) (free - length p) in
    let next = start free (from + 2 ^ free) p fewer in
    let fits = next.2 in
    let n : ℕ = number free (from + 2 ^ free) p in
    let size : ℕ = 2 ^ (free - length p) in
    let low : n + size ≤ from + 2 ^ suc free = omega (arith, fits) in
    rw z (higher n size from (2 ^ free) (2 ^ length p) (from + 2 ^ suc free) half (next.0, next.1, low))
start (suc free) from (false ∷ p) h =
    let fewer : length p ≤ free = omega arith in
    let z : suc free - suc (length p) ≡ free - length p = omega arith in
    let next = start free from p fewer in
    let fits = next.2 in
    rw z (next.0, next.1, omega (arith, fits))

module _ {V : Type 0} where
  pub are_blocks : (width : ℕ) (t : Table V) → AreShort width t
      → AllByRecursion (IsBlock width) (placed width width 0 t)
  are_blocks width [] h = tt
  are_blocks width (e ∷ t) h =
      let short = h.0 in
      let z : (width - width) + length e.0 ≡ length e.0 = omega arith in
      let at = start width 0 e.0 short in
      let first = at.1 in
      let last = at.2 in
      (rw z (short, (at.0, omega (arith, first)), omega (arith, last)), are_blocks width t h.1)
