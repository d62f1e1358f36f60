-- Spans in ascending order, of which those before a block are left out.
use Rattle.std.proofs.Common.{◌≡◌, ℕ, ◌+◌, ◌<◌, ◌^◌, true, false, ◌&&◌, if◌then◌else◌, nat_le, get_or, List, [], ◌∷◌, Option, Some, refl, ◌∙◌, arith}
use Rattle.std.proofs.lemmas.Bool.Decides.{nat_tests}
use Rattle.shortest_tables.specs.Numbers.{AreAscending, AreLeft, IsNumbered, IsUniform, value_at}
use Rattle.shortest_tables.specs.declared.spans.Span.{Span}

before : (first last n : ℕ) → n < first → (nat_le first n && nat_le n last) ≡ false
before first last n h = grind (arith, nat_tests)

module _ {V : Type 0} (otherwise : Option V) where
  -- a span says nothing of the numbers before it and after it
  pub skipped : (s : Span V) (rest : List (Span V)) (n : ℕ) → n < s.first
      → value_at otherwise (s ∷ rest) n ≡ value_at otherwise rest n
  skipped s rest n h = let t = before s.first s.last n h in rw t refl

pub none_before : (otherwise : Option ℕ) (count from : ℕ) (spans : List (Span ℕ))
    → AreAscending count from spans → (n : ℕ) → n < from → value_at otherwise spans n ≡ otherwise
none_before otherwise count from [] h n less = refl
none_before otherwise count from (s ∷ rest) h n less =
    let first = h.0 in
    let order = h.1 in
    skipped otherwise s rest n (omega (arith, first))
    ∙ none_before otherwise count (s.last + 1) rest h.3 n (omega (arith, first, order))

pub uniform_unmet : (otherwise : Option ℕ) (count free from last : ℕ) (s : Span ℕ)
    (rest : List (Span ℕ)) → last + 1 ≡ from + 2 ^ free → last < s.first
    → AreLeft count from (s ∷ rest) → IsUniform otherwise (s ∷ rest) free from otherwise
uniform_unmet otherwise count free from last s rest e h left n is_in =
    let order = left.1 in
    let low : n < s.first = omega (arith, is_in) in
    skipped otherwise s rest n low
    ∙ none_before otherwise count (s.last + 1) rest left.3 n (omega (arith, order))

pub uniform_unmet_first : (otherwise : Option ℕ) (count free from last : ℕ) (d : Span ℕ)
    (spans : List (Span ℕ)) → last + 1 ≡ from + 2 ^ free → last < (get_or spans 0 d).first
    → AreLeft count from spans → IsUniform otherwise spans free from otherwise
uniform_unmet_first otherwise count free from last d [] e h left = λ n is_in. refl
uniform_unmet_first otherwise count free from last d (s ∷ rest) e h left =
    uniform_unmet otherwise count free from last s rest e h left

-- the values of numbers are below the bound
pub value_numbered : (otherwise : Option ℕ) (count from : ℕ) (spans : List (Span ℕ))
    → IsNumbered count otherwise → AreAscending count from spans → (n : ℕ)
    → IsNumbered count (value_at otherwise spans n)
value_numbered otherwise count from [] h all n = h
value_numbered otherwise count from (s ∷ rest) h all n =
    elim (nat_le s.first n && nat_le n s.last) as (λ t. IsNumbered count
    (if t then Some s.value else value_at otherwise rest n)) [
      | true ↦ all.2
      | false ↦ value_numbered otherwise count (s.last + 1) rest h all.3 n
    ]

pub left_numbered : (otherwise : Option ℕ) (count from : ℕ) (spans : List (Span ℕ))
    → IsNumbered count otherwise → AreLeft count from spans → (n : ℕ)
    → IsNumbered count (value_at otherwise spans n)
left_numbered otherwise count from [] h all n = h
left_numbered otherwise count from (s ∷ rest) h all n =
    elim (nat_le s.first n && nat_le n s.last) as (λ t. IsNumbered count
    (if t then Some s.value else value_at otherwise rest n)) [
      | true ↦ all.2
      | false ↦ value_numbered otherwise count (s.last + 1) rest h all.3 n
    ]
