-- Which numbers are marked, and the values that two lists have.
use Rattle.std.proofs.Common.{◌≡◌, ℕ, Bool, false, if◌then◌else◌, nat_eq, List, get_or}
use Rattle.shortest_tables.specs.Labels.{has}

-- the numbers of a list are marked so, and all others as before
abbrev pub AreMarked : List ℕ → Bool → List Bool → List Bool → Type 0
AreMarked values is_seen old new = (v : ℕ) → get_or new v false
    ≡ (if has nat_eq v values then is_seen else get_or old v false)
