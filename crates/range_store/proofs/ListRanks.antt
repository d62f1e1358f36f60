-- what holds of a position, or of the end of the list, at a place
use Rattle.std.proofs.Common.{◌≡◌, ℕ, Option, Some, None, sym, refl, ◌∙◌}
use Rattle.std.specs.Option.{ForSome}
use Rattle.range_store.specs.ListRanks.{IsAt, rank_or_len}

pub good_at : {P : Type 0} (is_good : P → Type 0) (rank : P → ℕ) (len : ℕ) (at : Option P)
    (place : ℕ) → IsAt is_good rank len at place → ForSome at is_good
good_at is_good rank len None place h = λ x e. absurd (cc)
good_at is_good rank len (Some p) place h = λ x e. let same : p ≡ x = cc in rw (← same) h.0

pub place_at : {P : Type 0} (is_good : P → Type 0) (rank : P → ℕ) (len : ℕ) (at : Option P)
    (place : ℕ) → IsAt is_good rank len at place → rank_or_len rank len at ≡ place
place_at is_good rank len None place h = sym h
place_at is_good rank len (Some p) place h = h.1

pub at_place : {P : Type 0} (is_good : P → Type 0) (rank : P → ℕ) (len : ℕ) (at : Option P)
    → ForSome at is_good → IsAt is_good rank len at (rank_or_len rank len at)
at_place is_good rank len None h = refl
at_place is_good rank len (Some p) h = (h p refl, refl)

-- a change that keeps each position and its rank keeps its place
pub kept_at : {P : Type 0} (is_good is_good_after : P → Type 0) (rank rank_after : P → ℕ) (len : ℕ)
    (at : Option P) (place : ℕ) → ((p : P) → is_good p → is_good_after p × (rank_after p ≡ rank p))
    → IsAt is_good rank len at place → IsAt is_good_after rank_after len at place
kept_at is_good is_good_after rank rank_after len None place kept h = h
kept_at is_good is_good_after rank rank_after len (Some p) place kept h = let k =
    kept p h.0 in (k.0, k.1 ∙ h.1)
