-- The lines of a text that are found, and what is written of them.
use Rattle.std.specs.Prelude.{◌≡◌, ◌≢◌, ℕ, ◌+◌, Bool, true, false, Option, List, [], ◌∷◌, ◌++◌, codes, decimal, length}
use Rattle.std.specs.Io.BufRead.{drop_through, strip_last, take_through}
use Rattle.std.specs.Io.KnownBytes.{Appends}
use Rattle.address_lists.specs.declared.addresses.Addresses.{Addresses}
use Rattle.address_lines.specs.Words.{HoldsAddress}
use Rattle.address_lines.specs.declared.grep.Search.{Search}
use Rattle.address_lines.specs.declared.grep.Showing.{Showing}
use Rattle.address_lines.specs.declared.grep.Showing.TheVariants.{Count, Lines, Numbered}

-- lines that hold an address of the list are sought, or all others
abbrev pub IsSought : Addresses → Bool → List ℕ → Type 0
IsSought list false line = HoldsAddress list line
IsSought list true line = ¬ HoldsAddress list line

module _ (IsSuch : List ℕ → Type 0) where
  -- the lines of the input before the rest of it that are such, each with its number and its end:
  -- the first line has the number that is given
  pub data AreFound : ℕ → List ℕ → List (ℕ × List ℕ) → List ℕ → Type 0 where
    Ended : (number : ℕ) (input : List ℕ) → AreFound number input [] input
    Found : (number : ℕ) (input : List ℕ) (found : List (ℕ × List ℕ)) (rest : List ℕ)
        → input ≢ [] → IsSuch (take_through 10 input)
        → AreFound (number + 1) (drop_through 10 input) found rest
        → AreFound number input ((number, take_through 10 input) ∷ found) rest
    Other : (number : ℕ) (input : List ℕ) (found : List (ℕ × List ℕ)) (rest : List ℕ)
        → input ≢ [] → ¬ IsSuch (take_through 10 input)
        → AreFound (number + 1) (drop_through 10 input) found rest
        → AreFound number input found rest

-- a line with an end, also where it is the last one and has none
abbrev pub ended : List ℕ → List ℕ
ended line = strip_last 10 line ++ 10 ∷ []

-- what is written of a line that is found: itself, its number before it, or nothing where the lines
-- are counted
abbrev pub line_text : Showing → List ℕ → ℕ × List ℕ → List ℕ
line_text Lines before found = before ++ ended found.1
line_text Numbered before found = before ++ decimal found.0 ++ codes ":" ++ ended found.1
line_text Count before found = []

abbrev pub lines_text : Showing → List ℕ → List (ℕ × List ℕ) → List ℕ
lines_text showing before [] = []
lines_text showing before (one ∷ found) =
    line_text showing before one ++ lines_text showing before found

-- how many lines are found, where they are counted
abbrev pub count_text : Showing → List ℕ → ℕ → List ℕ
count_text Lines before count = []
count_text Numbered before count = []
count_text Count before count = before ++ decimal count ++ 10 ∷ []

-- all that is written
abbrev pub found_text : Showing → List ℕ → List (ℕ × List ℕ) → List ℕ
found_text showing before found =
    lines_text showing before found ++ count_text showing before (length found)

module _ (list : Addresses) (search : Search) (start bytes : List ℕ)
    (before after : Option (List ℕ)) where
  -- the lines of the bytes that are sought are so many, and written
  abbrev pub AreAllFound : ℕ → Type 0
  AreAllFound count = (found : List (ℕ × List ℕ))
      × AreFound (IsSought list search.is_inverted) 1 bytes found [] × (count ≡ length found)
      × Appends before after (found_text search.showing start found)

  -- those before a rest are written
  abbrev pub AreFoundSoFar : Type 0
  AreFoundSoFar = (found : List (ℕ × List ℕ)) × (rest : List ℕ)
      × AreFound (IsSought list search.is_inverted) 1 bytes found rest
      × Appends before after (lines_text search.showing start found)
