-- The leads of ranges of characters.
use Rattle.std.proofs.Common.{◌≡◌, ◌↔◌, ℕ, ◌+◌, ◌≤◌, true, List, [], ◌∷◌, ◌++◌, arith}
use Rattle.std.proofs.lemmas.Bool.Decides.{nat_tests}
use Rattle.regex_class.specs.Ranges.{in_range, in_ranges}
use Rattle.lexing_classes.specs.Leads.{AnyOf, HasPiece, lead_count, range_lead_count}

in_range_parts : (r : ℕ × ℕ) (c : ℕ) → (in_range r c ≡ true) ↔ ((r.0 ≤ c) × (c ≤ r.1))
unfolding in_range
in_range_parts r c = grind (arith, nat_tests)

pub in_ranges_any : (rs : List (ℕ × ℕ)) (c q to : ℕ)
    → AnyOf (λ r. HasPiece r.0 r.1 to c q) rs ↔ ((in_ranges rs c ≡ true) × (q ≡ to))
unfolding in_ranges
in_ranges_any [] c q to = grind arith
in_ranges_any (r ∷ rs) c q to = grind (arith, in_range_parts r c, in_ranges_any rs c q to)

-- a range more
counted_more : (rs : List (ℕ × ℕ)) (r : ℕ × ℕ)
    → lead_count (rs ++ r ∷ []) ≡ lead_count rs + range_lead_count r
counted_more [] r = omega arith
counted_more (x ∷ rs) r = omega (arith, counted_more rs r)

pub lead_count-push : (rs more : List (ℕ × ℕ)) (r : ℕ × ℕ) → more ≡ rs ++ r ∷ []
    → lead_count more ≡ lead_count rs + range_lead_count r
lead_count-push rs more r is = rw is (counted_more rs r)
