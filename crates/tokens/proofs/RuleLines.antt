-- Lines of rules, read one after the other.
use Rattle.std.proofs.Common.{◌≡◌, refl, ℕ, ◌+◌, Bool, true, false, List, [], ◌∷◌, ◌++◌, length, inl, inr, get_or, take, take_all, not, cond, Some, arith}
use Rattle.std.proofs.lemmas.Bool.Decides.{nat_tests}
use Rattle.std.proofs.lemmas.List.{take-append-le}
use Rattle.std.proofs.lemmas.Option.{slice_get_within}
use Rattle.std.specs.List.{slice_get, AllZip}
use Rattle.std.specs.Str.{trim}
use Rattle.lexing_mode_patterns.specs.declared.rules.ModeRule.{ModeRule}
use Rattle.tokens.specs.Rules.{says_nothing, AreNumbered, AreRulesUpTo, IsNumbered, IsRule, rule_lines}
use Rattle.tokens.proofs.Lists.{push_at, take_item, zip_more}

-- the lines of rules, with a line more
nothing_more : (all : List (List ℕ)) (line : List ℕ) → says_nothing (trim line) ≡ true
    → rule_lines (all ++ line ∷ []) ≡ rule_lines all
nothing_more [] line is = rw is refl
nothing_more (x ∷ all) line is = rw (nothing_more all line is) refl

rule_more : (all : List (List ℕ)) (line : List ℕ) → says_nothing (trim line) ≡ false
    → rule_lines (all ++ line ∷ []) ≡ rule_lines all ++ trim line ∷ []
rule_more [] line is = rw is refl
rule_more (x ∷ all) line is = rw (rule_more all line is) (pulled (says_nothing (trim x)))
  where
    pulled : (says : Bool) → cond (not says) (trim x ∷ (rule_lines all ++ trim line ∷ []))
        (rule_lines all ++ trim line ∷ [])
        ≡ cond (not says) (trim x ∷ rule_lines all) (rule_lines all) ++ trim line ∷ []
    pulled true = refl
    pulled false = refl

module _ (names all : List (List ℕ)) where
  pub read_none : AreRulesUpTo names all 0 []
  read_none = tt

  pub read_nothing : (at : ℕ) (line : List ℕ) (rules : List ModeRule)
      → slice_get all at ≡ Some line → says_nothing (trim line) ≡ true
      → AreRulesUpTo names all at rules → AreRulesUpTo names all (at + 1) rules
  read_nothing at line rules there nothing was =
      rw (take_item all at line there, nothing_more (take at all) line nothing) was

  pub read_rule : (at : ℕ) (line : List ℕ) (rules after : List ModeRule) (rule : ModeRule)
      → slice_get all at ≡ Some line → IsRule names (trim line) rule → after ≡ rules ++ rule ∷ []
      → AreRulesUpTo names all at rules → AreRulesUpTo names all (at + 1) after
  read_rule at line rules after rule there is pushed was =
      rw (take_item all at line there, rule_more (take at all) line is.says, pushed)
      (zip_more (IsRule names) (rule_lines (take at all)) rules (trim line) rule was is)

  pub read_all : (at : ℕ) (rules : List ModeRule) → at ≡ length all → AreRulesUpTo names all at rules
      → AllZip (IsRule names) (rule_lines all) rules
  read_all at rules ended was = rw (take_all at all (omega (arith, ended))) at was

  pub numbered_none : AreNumbered names all [] []
  numbered_none i number rule at there = grind (arith, slice_get_within [] i number at)

  -- a rule more, with its number
  pub numbered_more : (numbers : List ℕ) (rules : List ModeRule) (number : ℕ) (rule : ModeRule)
      → length numbers ≡ length rules → AreNumbered names all numbers rules
      → IsNumbered names (λ line. IsRule names line rule) all number rules
      → AreNumbered names all (numbers ++ number ∷ []) (rules ++ rule ∷ [])
  numbered_more numbers rules number rule same was new i n r at there =
      elim (push_at numbers number i n at) [
        | inl (old, within) ↦ elim (push_at rules rule i r there) [
          | inl (stood, inside) ↦
              rw (take-append-le i rules (rule ∷ []) (omega (arith, inside))) (was i n r old stood)
          | inr (last, is) ↦ absurd (omega (arith, within, last, same))
        ]
        | inr (last, is) ↦ elim (push_at rules rule i r there) [
          | inl (stood, inside) ↦ absurd (omega (arith, inside, last, same))
          | inr (end, is_rule) ↦
              rw (
                ← is,
                ← is_rule,
                end,
                take-append-le (length rules) rules (rule ∷ []) (omega arith),
                take_all (length rules) rules (omega arith),
              ) new
        ]
      ]

-- the first byte of a line tells whether it says nothing
pub nothing_of : (line : List ℕ) (starts : Bool) → ¬ (length line ≡ 0)
    → (starts ≡ true → get_or line 0 0 ≡ 35) × (get_or line 0 0 ≡ 35 → starts ≡ true)
    → starts ≡ says_nothing line
nothing_of [] starts some decides = absurd (some refl)
nothing_of (first ∷ rest) starts some decides = grind (arith, nat_tests)

pub nothing_empty : (line : List ℕ) → length line ≡ 0 → says_nothing line ≡ true
nothing_empty [] none = refl
nothing_empty (first ∷ rest) none = absurd (omega (arith, none))
