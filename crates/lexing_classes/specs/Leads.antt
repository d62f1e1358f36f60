-- Ranges of characters that lead to states.
use Rattle.std.specs.Prelude.{◌≡◌, ℕ, ◌+◌, ◌≤◌, ◌⊎◌, min, max, nat_le, if◌then◌else◌, List, [], ◌∷◌}
use Rattle.lexing_classes.specs.declared.leads.Lead.{Lead}

-- of one in the list this holds
abbrev pub AnyOf : {X : Type 0} → (X → Type 0) → List X → Type 0
AnyOf P [] = ⊥
AnyOf P (x ∷ xs) = P x ⊎ AnyOf P xs

-- the character leads to the state
abbrev pub LeadsBy : ℕ → ℕ → Lead → Type 0
LeadsBy c q lead = (lead.first ≤ c) × (c ≤ lead.last) × (q ≡ lead.to)

abbrev pub Leads : List Lead → ℕ → ℕ → Type 0
Leads leads c q = AnyOf (LeadsBy c q) leads

-- the number lies between these two, and leads to the state
abbrev pub HasPiece : ℕ → ℕ → ℕ → ℕ → ℕ → Type 0
HasPiece first last to c q = ((first ≤ c) × (c ≤ last)) × (q ≡ to)

-- the numbers from first to last are characters, on one side of the surrogates
abbrev pub AreCharacters : ℕ → ℕ → Type 0
AreCharacters first last = first ≤ last → (last ≤ 0xD7FF) ⊎ ((0xE000 ≤ first) × (last ≤ 0x10_FFFF))

-- one where the numbers from first to last are some, else none
abbrev pub piece_count : ℕ → ℕ → ℕ
piece_count first last = if nat_le first last then 1 else 0

-- how many leads a range has: one on each side of the surrogates where it has characters
abbrev pub range_lead_count : ℕ × ℕ → ℕ
range_lead_count range = piece_count range.0 (min range.1 0xD7FF)
    + piece_count (max range.0 0xE000) (min range.1 0x10_FFFF)

abbrev pub lead_count : List (ℕ × ℕ) → ℕ
lead_count [] = 0
lead_count (range ∷ ranges) = range_lead_count range + lead_count ranges
