-- The modes that stand before rules, by name.
use Rattle.std.specs.Prelude.{◌≡◌, ℕ, ◌+◌, ◌==◌, ◌⊎◌, nat_lt, List, [], ◌∷◌, length, map, Option, Some, None, codes, slice_get, if◌then◌else◌}
use Rattle.std.specs.Borrow.{Bor}
use Rattle.std.specs.List.{AllZip, Contains, after_first, before_first, position_or_len, slice_split}
use Rattle.std.specs.Str.{trim}

-- texts, as they stand
abbrev pub texts_of : List (Bor (List ℕ)) → List (List ℕ)
texts_of texts = map (λ text. text.now) texts

-- the mode in which a text begins
abbrev pub first_mode : List ℕ
first_mode = codes "initial"

-- what stands between `<` and `>` at the start of the line; the first mode where it begins with no
-- `<`
abbrev pub named_modes : List ℕ → List ℕ
named_modes [] = first_mode
named_modes (first ∷ rest) =
    if first == 60 then before_first (λ b. b == 62) rest else first_mode

-- what stands behind them, unless the `<` is not closed
abbrev pub behind_modes : List ℕ → Option (List ℕ)
behind_modes [] = Some []
behind_modes (first ∷ rest) =
    if first == 60
    then (if nat_lt (position_or_len (λ b. b == 62) rest) (length rest)
    then Some (after_first (λ b. b == 62) rest) else None)
    else Some (first ∷ rest)

-- the names of the modes in which the rule of the line holds, with commas between
abbrev pub mode_names : List ℕ → List (List ℕ)
mode_names line = slice_split (λ b. b == 44) (named_modes line)

-- these are their numbers, by the names of all modes
abbrev pub HasNumbers : List (List ℕ) → List ℕ → List ℕ → Type 0
HasNumbers names line numbers =
    AllZip (λ name number. slice_get names number ≡ Some name) (mode_names line) numbers

-- the rule of one of the lines holds in the mode
abbrev pub HasRuleIn : List (List ℕ) → List ℕ → Type 0
HasRuleIn all name = (line : List ℕ) × Contains all line × Contains (mode_names (trim line)) name

-- the names are those of all modes of the lines: the first mode, and each in which a rule holds
pub record AreModesOf (all : List (List ℕ)) (names : List (List ℕ)) : Type 0 where
  pub first : slice_get names 0 ≡ Some first_mode
  pub others : (i : ℕ) (name : List ℕ) → slice_get names (i + 1) ≡ Some name → HasRuleIn all name
  pub each : (name : List ℕ) → HasRuleIn all name → Contains names name

-- each line has the numbers of the modes in which its rule holds
abbrev pub AreHeadsOf : List (List ℕ) → List (List ℕ) → List (List ℕ) → Type 0
AreHeadsOf all names modes = AllZip (λ line numbers. HasNumbers names (trim line) numbers) all modes

-- each name has its number still
abbrev pub KeepsNames : List (List ℕ) → List (List ℕ) → Type 0
KeepsNames before after = (i : ℕ) (name : List ℕ) → slice_get before i ≡ Some name
    → slice_get after i ≡ Some name

-- each name that was not there is such
abbrev pub AddsOnly : (List ℕ → Type 0) → List (List ℕ) → List (List ℕ) → Type 0
AddsOnly IsNew before after = (i : ℕ) (name : List ℕ) → slice_get after i ≡ Some name
    → (slice_get before i ≡ Some name) ⊎ IsNew name
