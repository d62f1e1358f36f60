-- The halves of a list of prefixes, and what they hold.
use Rattle.std.proofs.Common.{◌≡◌, ℕ, suc, ◌+◌, ◌-◌, ◌≤◌, ◌<◌, ◌^◌, Bool, true, false, ◌||◌, if◌then◌else◌, nat_le, List, [], ◌∷◌, length, refl, ap, ◌∙◌, arith}
use Rattle.std.proofs.lemmas.Bool.Decides.{nat_tests}
use Rattle.shortest_tables.specs.Tables.{Bits, holds, same}
use Rattle.shortest_tables.specs.Numbers.{bits}
use Rattle.least_covers.specs.Covers.{some_holds}

-- the prefixes of those that hold an address with this first bit, behind it
abbrev pub under : Bool → List Bits → List Bits
under b [] = []
under b ([] ∷ ps) = [] ∷ under b ps
under b ((c ∷ p) ∷ ps) = if same c b then p ∷ under b ps else under b ps

-- one of them is the empty prefix
abbrev pub has_root : List Bits → Bool
has_root [] = false
has_root ([] ∷ ps) = true
has_root ((c ∷ p) ∷ ps) = has_root ps

pub under_holds : (b : Bool) (a : Bits) (ps : List Bits)
    → some_holds ps (b ∷ a) ≡ some_holds (under b ps) a
under_holds b a [] = refl
under_holds b a ([] ∷ ps) = refl
under_holds true a ((true ∷ p) ∷ ps) = ap (λ r. holds p a || r) (under_holds true a ps)
under_holds true a ((false ∷ p) ∷ ps) = under_holds true a ps
under_holds false a ((true ∷ p) ∷ ps) = under_holds false a ps
under_holds false a ((false ∷ p) ∷ ps) = ap (λ r. holds p a || r) (under_holds false a ps)

pub under_fewer : (b : Bool) (ps : List Bits) → length (under b ps) ≤ length ps
under_fewer b [] = omega arith
under_fewer b ([] ∷ ps) = let h = under_fewer b ps in omega arith
under_fewer true ((true ∷ p) ∷ ps) = let h = under_fewer true ps in omega arith
under_fewer true ((false ∷ p) ∷ ps) = let h = under_fewer true ps in omega arith
under_fewer false ((true ∷ p) ∷ ps) = let h = under_fewer false ps in omega arith
under_fewer false ((false ∷ p) ∷ ps) = let h = under_fewer false ps in omega arith

pub under_both : (ps : List Bits) → has_root ps ≡ false
    → length (under false ps) + length (under true ps) ≤ length ps
under_both [] h = omega arith
under_both ([] ∷ ps) h = absurd (cc)
under_both ((true ∷ p) ∷ ps) h = let k = under_both ps h in omega arith
under_both ((false ∷ p) ∷ ps) h = let k = under_both ps h in omega arith

or_true : (b : Bool) → (b || true) ≡ true
or_true true = refl
or_true false = refl

pub root_holds : (ps : List Bits) (a : Bits) → has_root ps ≡ true → some_holds ps a ≡ true
root_holds [] a h = absurd (cc)
root_holds ([] ∷ ps) a h = refl
root_holds ((c ∷ p) ∷ ps) a h =
    ap (λ r. holds (c ∷ p) a || r) (root_holds ps a h) ∙ or_true (holds (c ∷ p) a)

pub some_prefix : (ps : List Bits) (a : Bits) → some_holds ps a ≡ true → 1 ≤ length ps
some_prefix [] a h = absurd (cc)
some_prefix (p ∷ ps) a h = omega arith

pub low_bits : (width n : ℕ) → n < 2 ^ width → bits (suc width) n ≡ false ∷ bits width n
low_bits width n h = let t : nat_le (2 ^ width) n ≡ false = grind (arith, nat_tests) in rw t refl

pub high_bits : (width n : ℕ) → bits (suc width) (2 ^ width + n) ≡ true ∷ bits width n
high_bits width n =
    let t : nat_le (2 ^ width) (2 ^ width + n) ≡ true = grind (arith, nat_tests) in
    let s : 2 ^ width + n - 2 ^ width ≡ n = omega arith in rw (t, s) refl
