-- Languages: which texts, as lists of characters, and what a pattern makes of them.
use Rattle.std.specs.Prelude.{◌≡◌, ◌↔◌, ℕ, true, Bool, List, [], ◌∷◌, ◌++◌, length}
use Rattle.std.specs.Str.{encode_utf8_all, all_scalars}
use Rattle.regex_hir.specs.Re.{Re}
use Rattle.regex_hir.specs.Matches.{Matches}

-- a text of the one language and then a text of the other
abbrev pub InTurn : (List ℕ → Type 0) → (List ℕ → Type 0) → List ℕ → Type 0
InTurn L M w = (u : List ℕ) × (v : List ℕ) × (w ≡ u ++ v) × L u × M v

-- one text of the language or several, one after the other
pub data RoundsOf (L : List ℕ → Type 0) : List ℕ → Type 0 where
  one_text : (w : List ℕ) → L w → RoundsOf L w
  more_texts : (u v : List ℕ) → RoundsOf L u → L v → RoundsOf L (u ++ v)

-- one character, of which this holds
abbrev pub OneOf : (ℕ → Bool) → List ℕ → Type 0
OneOf is_one w = (c : ℕ) × (w ≡ c ∷ []) × (is_one c ≡ true)

-- the pattern matches from the characters in front on, up to there
abbrev pub MatchesBehind : Re → List ℕ → List ℕ → ℕ → Type 0
MatchesBehind re front rest =
    Matches (encode_utf8_all (front ++ rest)) re (length (encode_utf8_all front))

-- the language goes on behind the characters in front, up to there
abbrev pub GoesOnTo : (List ℕ → Type 0) → List ℕ → List ℕ → ℕ → Type 0
GoesOnTo L front rest at = (w : List ℕ) × (more : List ℕ) × (rest ≡ w ++ more)
    × (at ≡ length (encode_utf8_all (front ++ w))) × L w

-- in each text the pattern matches, from each place between characters on, just the texts of the
-- language
pub record IsLanguage (re : Re) (L : List ℕ → Type 0) : Type 0 where
  pub matches : (front rest : List ℕ) → all_scalars front ≡ true → all_scalars rest ≡ true
      → (at : ℕ) → MatchesBehind re front rest at ↔ GoesOnTo L front rest at
