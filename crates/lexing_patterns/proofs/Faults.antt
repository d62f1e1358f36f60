-- Why patterns are not taken, by what they are made of.
use Rattle.std.proofs.Common.{◌≡◌, refl, ◌⊎◌, ◌<◌, ◌≤◌, ◌+◌, ◌-◌, inl, inr, ℕ, zero, suc, Bool, true, false, Option, Some, None, List, [], ◌∷◌, map, length, get_or, drop, arith}
use Rattle.std.proofs.lemmas.List.{drop_more}
use Rattle.regex_hir.specs.Re.{Re, empty, cat, alt, plus}
use Rattle.regex_hir.specs.Meaning.{meaning, cat_all, alt_all, copies, up_to, optional, repeat}
use Rattle.regex_hir.specs.declared.hir.Hir.{Hir}
use Rattle.lexing_patterns.specs.declared.error.PatternError.{PatternError}
use Rattle.lexing_patterns.specs.declared.error.PatternError.TheVariants.{Syntax, Assertion, NotText, TooLarge, Memory}
use Rattle.lexing_patterns.specs.Faults.{IsFaultIn, IsTooMuch}
use Rattle.lexing_patterns.specs.Leaves.{HasLeaf, IsAssertion, IsBytes, IsTaken}
use Rattle.lexing_patterns.specs.Sizes.{step_count}
use Rattle.lexing_patterns.proofs.Repeating.{repeat_bounded, repeat_plus, repeat_star}

-- the leaves of the one pattern are among those of the other, and it takes no more steps
pub record HasPart (b a : Re) : Type 0 where
  pub assertions : HasLeaf IsAssertion a → HasLeaf IsAssertion b
  pub bytes : HasLeaf IsBytes a → HasLeaf IsBytes b
  pub steps : step_count a ≤ step_count b

has_itself : (a : Re) → HasPart a a
has_itself a = record { assertions = λ has. has; bytes = λ has. has; steps = omega arith }

has_through : (a b c : Re) → HasPart c b → HasPart b a → HasPart c a
has_through a b c outer inner = record {
  assertions = λ has. outer.assertions (inner.assertions has);
  bytes = λ has. outer.bytes (inner.bytes has);
  steps = omega (arith, outer.steps, inner.steps);
}

has_behind : (a b : Re) → HasPart (cat a b) b
has_behind a b = record {
  assertions = λ has. inr has;
  bytes = λ has. inr has;
  steps = omega arith;
}

has_beside : (a b : Re) → HasPart (alt a b) b
has_beside a b = record {
  assertions = λ has. inr has;
  bytes = λ has. inr has;
  steps = omega arith;
}

pub has_in_optional : (greedy : Bool) (a : Re) → HasPart (optional greedy a) a
has_in_optional true a = record {
  assertions = λ has. inl has;
  bytes = λ has. inl has;
  steps = omega arith;
}
has_in_optional false a = has_beside empty a

-- a fault of a part is one of the whole
pub fault_of : (a b : Re) → HasPart b a → (budget : ℕ) (error : PatternError)
    → IsFaultIn budget a error → IsFaultIn budget b error
fault_of a b more budget (Syntax fault) is = is
fault_of a b more budget Assertion is = more.assertions is
fault_of a b more budget NotText is = more.bytes is
fault_of a b more budget TooLarge is = omega (arith, is, more.steps)
fault_of a b more budget Memory is = tt

pub too_much_of : (re : Re) (budget steps : ℕ) (error : PatternError) → steps ≤ step_count re
    → IsTooMuch budget steps error → IsFaultIn budget re error
too_much_of re budget steps error few (inl (is, less)) = rw is (omega (arith, less, few))
too_much_of re budget steps error few (inr is) = rw is tt

-- what is taken of two parts is taken of both
pub taken_both : (a b : Re) → IsTaken a → IsTaken b → IsTaken (cat a b)
taken_both a b one other = grind arith

-- a fault of the first of two, of which the second is made
module _ (a b : Re) (budget before : ℕ) (left : budget ≡ before + step_count b) where
  pub front_fault : (error : PatternError) → IsFaultIn before a error
      → IsFaultIn budget (cat a b) error
  front_fault (Syntax fault) is = is
  front_fault Assertion is = inl is
  front_fault NotText is = inl is
  front_fault TooLarge is = omega (arith, is, left)
  front_fault Memory is = tt

  pub choice_fault : (error : PatternError) → IsFaultIn before a error
      → IsFaultIn budget (alt a b) error
  choice_fault (Syntax fault) is = is
  choice_fault Assertion is = inl is
  choice_fault NotText is = inl is
  choice_fault TooLarge is = omega (arith, is, left)
  choice_fault Memory is = tt

-- the last of several in turn, or as choices
has_rest_in_turn : (subs : List Hir) (i : ℕ)
    → HasPart (cat_all (map meaning subs)) (cat_all (map meaning (drop i subs)))
has_rest_in_turn subs zero = has_itself (cat_all (map meaning subs))
has_rest_in_turn [] (suc i) = has_itself empty
has_rest_in_turn (x ∷ subs) (suc i) =
    has_through _ _ _ (has_behind (meaning x) (cat_all (map meaning subs))) (has_rest_in_turn subs i)

has_rest_as_choice : (subs : List Hir) (i : ℕ)
    → HasPart (alt_all (map meaning subs)) (alt_all (map meaning (drop i subs)))
has_rest_as_choice subs zero = has_itself (alt_all (map meaning subs))
has_rest_as_choice [] (suc i) = has_itself (alt_all [])
has_rest_as_choice (x ∷ subs) (suc i) =
    has_through _ _ _ (has_beside (meaning x) (alt_all (map meaning subs)))
    (has_rest_as_choice subs i)

module _ (subs : List Hir) (i j : ℕ) (sub : Hir) (within : i < length subs)
    (is : sub ≡ get_or subs i sub) (next : j ≡ i + 1) where
  pub begins : drop i subs ≡ sub ∷ drop j subs
  begins = rw (drop_more subs i sub within, ← is, next) refl

  -- what begins with one of them
  pub has_in_turn : HasPart (cat_all (map meaning subs))
      (cat (meaning sub) (cat_all (map meaning (drop j subs))))
  has_in_turn = rw begins at (has_rest_in_turn subs i)

  pub has_as_choice : HasPart (alt_all (map meaning subs))
      (alt (meaning sub) (alt_all (map meaning (drop j subs))))
  has_as_choice = rw begins at (has_rest_as_choice subs i)

pub some_steps_in_turn : (subs : List Hir) → 1 ≤ step_count (cat_all (map meaning subs))
some_steps_in_turn [] = omega arith
some_steps_in_turn (x ∷ subs) = omega (arith, some_steps_in_turn subs)

pub some_steps_as_choice : (subs : List Hir) → 1 ≤ step_count (alt_all (map meaning subs))
some_steps_as_choice [] = omega arith
some_steps_as_choice (x ∷ subs) = omega (arith, some_steps_as_choice subs)

last_or_before : (n count : ℕ) → n ≤ suc count → (n ≡ suc count) ⊎ (n ≤ count)
last_or_before n count few = grind arith

-- fewer copies of what is repeated
pub has_copies : (count n : ℕ) (a b : Re) → n ≤ count → HasPart (copies count a b) (copies n a b)
has_copies zero n a b few = let none : n ≡ 0 = omega (arith, few) in rw none (has_itself b)
has_copies (suc count) n a b few = elim (last_or_before n count few) [
  | inl same ↦ rw same (has_itself (copies (suc count) a b))
  | inr less ↦
      has_through _ _ _ (has_behind a (copies count a b)) (has_copies count n a b less)
]

pub has_rounds : (greedy : Bool) (count n : ℕ) (a : Re) → n ≤ count
    → HasPart (up_to greedy count a) (up_to greedy n a)
has_rounds greedy zero n a few = let none : n ≡ 0 = omega (arith, few) in rw none (has_itself empty)
has_rounds greedy (suc count) n a few = elim (last_or_before n count few) [
  | inl same ↦ rw same (has_itself (up_to greedy (suc count) a))
  | inr less ↦
      let turn = cat a (up_to greedy count a) in
      has_through _ _ _ (has_in_optional greedy turn)
      (has_through _ _ _ (has_behind a (up_to greedy count a)) (has_rounds greedy count n a less))
]

pub some_steps_up_to : (greedy : Bool) (count : ℕ) (a : Re) → 1 ≤ step_count (up_to greedy count a)
some_steps_up_to greedy count a =
    let rounds = has_rounds greedy count 0 a (omega arith) in omega (arith, rounds.steps)

-- what a repetition is made of
module _ (least : ℕ) (greedy : Bool) (a : Re) where
  pub has_bounded : (most : ℕ)
      → HasPart (repeat least (Some most) greedy a) (up_to greedy (most - least) a)
  has_bounded most = rw repeat_bounded (has_copies least 0 a (up_to greedy (most - least) a) (omega arith))

  pub has_unbounded : HasPart (repeat least None greedy a) (plus greedy a)
  unfolding repeat
  has_unbounded = of least
    where
      of : (n : ℕ) → HasPart (repeat n None greedy a) (plus greedy a)
      of zero = has_in_optional greedy (plus greedy a)
      of (suc n) = has_copies n 0 a (plus greedy a) (omega arith)

  pub has_once : HasPart (repeat least None greedy a) a
  has_once = has_through _ _ _ has_unbounded (record {
    assertions = λ has. has;
    bytes = λ has. has;
    steps = omega arith;
  })
