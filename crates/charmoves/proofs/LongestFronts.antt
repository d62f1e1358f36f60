-- The longest beginning that is accepted of what has been read, and of a whole text by its bytes.
use Rattle.std.proofs.Common.{◌≡◌, ℕ, ◌≤◌, List, ◌∷◌, ◌++◌, take, Option, Some, None, arith}
use Rattle.std.specs.Prelude.{IfSome, MatchOption}
use Rattle.std.specs.Str.{chars, IsUtf8}
use Rattle.std.proofs.lemmas.Option.{IfSome_then}
use Rattle.state_sets.specs.Beginnings.{IsLongest}
use Rattle.state_sets.proofs.Reading.{bytes_of}
use Rattle.state_sets.proofs.Fronts.{IsAcceptedFront, front_fits, whole_front, front_stays, front_in_parts, front_of_bytes, bytes_of_chars}

module _ (Accepted : List ℕ → Type 0) where
  pub record IsLongestFront (cs : List ℕ) (longest : Option ℕ) : Type 0 where
    pub most : (n : ℕ) → IsAcceptedFront Accepted cs n → MatchOption longest ⊥ (λ m. n ≤ m)
    pub has : IfSome longest (IsAcceptedFront Accepted cs)

  pub longest_whole : (cs : List ℕ) (len : ℕ) → len ≡ bytes_of cs → Accepted cs
      → IsLongestFront cs (Some len)
  longest_whole cs len bytes accepted = record {
    most = λ n h. grind (arith, front_fits Accepted cs n h);
    has = grind (arith, whole_front Accepted cs accepted);
  }

  -- with characters more, by which nothing is accepted
  pub longest_stays : (read rest : List ℕ) (c : ℕ) (longest : Option ℕ)
      → ((k : ℕ) → ¬ Accepted (read ++ c ∷ take k rest)) → IsLongestFront read longest
      → IsLongestFront (read ++ c ∷ rest) longest
  longest_stays read rest c longest never was = record {
    most = λ n h. grind (arith, front_in_parts Accepted read rest c n h, was.most n, never);
    has = IfSome_then longest was.has (λ m at. front_stays Accepted read (c ∷ rest) m at);
  }

  pub longest_by_bytes : (text : List ℕ) → IsUtf8 text → (longest : Option ℕ)
      → IsLongestFront (chars text) longest → IsLongest Accepted text longest
  longest_by_bytes text utf8 None longest =
      λ n h. longest.most n (front_of_bytes Accepted text utf8 n h)
  longest_by_bytes text utf8 (Some m) longest = (
    bytes_of_chars Accepted text utf8 m longest.has,
    λ n h. longest.most n (front_of_bytes Accepted text utf8 n h),
  )
