-- Texts of first and last addresses.
use Rattle.std.proofs.Common.{◌≡◌, ℕ, ◌<◌, List, Option, None, Some, MatchOption, inl, inr, sym, ◌∙◌, arith}
use Rattle.address_text.specs.Texts.{IsAddressText}
use Rattle.address_text.specs.declared.family.Family.{Family}
use Rattle.address_text.specs.declared.family.Family.TheVariants.{V4, V6}
use Rattle.address_text.specs.declared.line.Line.{Line}
use Rattle.address_text.specs.declared.line.Line.TheVariants.{Addresses, Nothing}
use Rattle.address_text.proofs.Spans.{address_unique}
use Rattle.address_rows.specs.Lines.{AreEnds, IsBits, IsEnd}

-- a text is one address at most
pub end_unique : (family : Family) (text : List ℕ) (a b : ℕ) → IsEnd family text a
    → IsEnd family text b → a ≡ b
end_unique V4 text a b (inl one) (inl other) = sym one.0.1 ∙ other.0.1
end_unique V4 text a b (inl one) (inr other) = absurd (other.0 a one)
end_unique V4 text a b (inr one) (inl other) = absurd (one.0 b other)
end_unique V4 text a b (inr one) (inr other) = address_unique V4 text a b one.1 other.1
end_unique V6 text a b one other = address_unique V6 text a b one other

-- a text that is no number of 32 bits is an address as it is written, or none
pub read_v4 : (text : List ℕ) (r : Option ℕ) → ((n : ℕ) → ¬ IsBits text n)
    → MatchOption r ((n : ℕ) → ¬ IsAddressText V4 text n) (λ n. IsAddressText V4 text n)
    → MatchOption r ((n : ℕ) → ¬ IsEnd V4 text n) (λ n. IsEnd V4 text n)
read_v4 text None no_number none = λ n is. elim is [
  | inl number ↦ no_number n number
  | inr written ↦ none n written.1
]
read_v4 text (Some n) no_number written = inr (no_number, written)

-- two texts whose addresses stand the wrong way round are no ends
pub no_ends : (family : Family) (from to : List ℕ) (first last : ℕ) → IsEnd family from first
    → IsEnd family to last → last < first → (a b : ℕ) → ¬ AreEnds from to (Addresses family a b)
no_ends family from to first last one other above a b (starts, ends, ordered) =
    let low = end_unique family from a first starts one in
    let high = end_unique family to b last ends other in
    omega (arith, low, high, ordered)

-- ends of neither family are none
pub neither_ends : (from to : List ℕ) → ((a b : ℕ) → ¬ AreEnds from to (Addresses V4 a b))
    → ((a b : ℕ) → ¬ AreEnds from to (Addresses V6 a b)) → (line : Line) → ¬ AreEnds from to line
neither_ends from to v4 v6 Nothing none = none
neither_ends from to v4 v6 (Addresses V4 a b) ends = v4 a b ends
neither_ends from to v4 v6 (Addresses V6 a b) ends = v6 a b ends
