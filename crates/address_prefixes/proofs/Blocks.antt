-- What the search for the widest block finds.
use Rattle.std.proofs.Common.{◌≡◌, ℕ, ◌+◌, ◌-◌, ◌*◌, ◌/◌, ◌%◌, ◌^◌, ◌≤◌, ◌<◌, ◌⊎◌, inl, inr, ap, sym, ◌∙◌, arith}
use Rattle.std.proofs.Math.Nat.{mul-mod_left}
use Rattle.std.proofs.Math.Pow.{pow_mono, pow-add, shl-shr}
use Rattle.std.proofs.lemmas.Bool.{cases_lt}
use Rattle.address_prefixes.specs.Prefixes.{IsAligned}
use Rattle.address_prefixes.specs.Tiles.{widest}
use Rattle.address_prefixes.proofs.Widest.{widest_is}

pub double : (k : ℕ) → 2 ^ (k + 1) ≡ 2 ^ k * 2
double k = pow-add 2 k 1

-- the quotient is even
halved : (q block free d : ℕ) → q * 2 ^ ((d + 1) + free) ≡ block * 2 ^ free
    → block ≡ (q * 2 ^ d) * 2
halved q block free d e =
    let a : q * 2 ^ ((d + 1) + free) ≡ (q * 2 ^ d * 2) * 2 ^ free =
    rw (pow-add 2 (d + 1) free, double d) (omega arith) in
    sym (shl-shr block free) ∙ ap (λ x. x / 2 ^ free) (sym e ∙ a) ∙ shl-shr (q * 2 ^ d * 2) free

even : (q block free k : ℕ) → free < k → q * 2 ^ k ≡ block * 2 ^ free → block % 2 ≡ 0
even q block free k h e =
    let d : ℕ = k - free - 1 in
    let s : k ≡ (d + 1) + free = omega arith in
    let b : block ≡ (q * 2 ^ d) * 2 = halved q block free d (ap (λ x. q * 2 ^ x) (sym s) ∙ e) in
    ap (λ x. x % 2) b ∙ mul-mod_left (q * 2 ^ d) 2

-- why the search stops
abbrev pub Stops : ℕ → ℕ → ℕ → ℕ → ℕ → Type 0
Stops width room block spare free =
    (width ≤ free) ⊎ ((block % 2 ≡ 0 → ⊥) ⊎ (room - spare ≤ spare))

no_wider : (width first last block spare free k : ℕ) → first ≡ block * 2 ^ free
    → spare + 1 ≡ 2 ^ free → first + spare ≤ last → Stops width (last - first) block spare free
    → k ≤ width → IsAligned first k → first + 2 ^ k ≤ last + 1 → free < k → ⊥
no_wider width first last block spare free k e s fits (inl full) bounded aligned inside h =
    omega (arith, full, bounded, h)
no_wider width first last block spare free k e s fits (inr (inl odd)) bounded aligned inside h =
    odd (even aligned.0 block free k h (sym aligned.1 ∙ e))
no_wider width first last block spare free k e s fits (inr (inr narrow)) bounded aligned inside h =
    let p : 2 ^ (free + 1) ≤ 2 ^ k = pow_mono (omega arith) in
    let r : 2 ^ (free + 1) ≡ 2 ^ free * 2 = double free in
    omega (arith, p, r, s, fits, narrow, inside)

pub halve : (first block half free : ℕ) → block ≡ half * 2 → first ≡ block * 2 ^ free
    → first ≡ half * 2 ^ (free + 1)
halve first block half free h e =
    let same : half * 2 * 2 ^ free ≡ half * (2 ^ free * 2) = omega arith in
    e ∙ ap (λ x. x * 2 ^ free) h ∙ same ∙ sym (ap (λ x. half * x) (double free))

-- what the search has found when it stops is the widest
pub found : {width first last : ℕ} (block spare : ℕ) {free : ℕ} → first ≤ last → free ≤ width
    → first ≡ block * 2 ^ free → spare + 1 ≡ 2 ^ free → first + spare ≤ last
    → Stops width (last - first) block spare free → free ≡ widest width first (last + 1)
found {width = width} {first = first} {last = last} block spare {free = free} le bounded e s fits
    stops =
    let best = widest_is width first (last + 1) (omega (arith, le)) in
    let low : free ≤ widest width first (last + 1) =
    best.greatest free bounded (block, e) (omega (arith, s, fits)) in
    elim (cases_lt free (widest width first (last + 1))) [
      | inl less ↦
          absurd (no_wider width first last block spare free (widest width first (last + 1)) e s fits
          stops best.bounded best.aligned best.inside less)
      | inr not ↦ omega (arith, low, not)
    ]
