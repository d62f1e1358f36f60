-- What a rule is called when others are added.
use Rattle.std.proofs.Common.{◌≡◌, subst, ◌↔◌, ℕ, ◌+◌, ◌<◌, List, IsTrue, Some, get_or, below_more}
use Rattle.std.specs.List.{slice_get}
use Rattle.std.proofs.lemmas.Option.{get_or_from_slice_get}
use Rattle.lexing.specs.declared.lexer.Lexer.{Lexer}
use Rattle.lexing.specs.Lexers.{IsNameOf, IsSkipped, KeepsRules}
use Rattle.lexing_patterns.specs.declared.patterns.PatternRule.{PatternRule}

-- the lexer's rule at the index is called so, and is skipped or not
abbrev pub IsRule : Lexer → ℕ → PatternRule → Type 0
IsRule lexer i rule = IsNameOf lexer i rule.name.now × (IsSkipped lexer i ↔ IsTrue rule.skipped)

still : (before after : Lexer) → KeepsRules before after → (i : ℕ) (rule : PatternRule)
    → IsRule before i rule → IsRule after i rule
still before after kept i rule ((kind, at, named), skips) =
    let now = kept.2 i kind at in (
      (kind, now, named),
      (
        λ (other, there, skipped).
            let same : kind ≡ other = cc in skips.0 (kind, at, rw same skipped),
        λ skipped. let (kind, at, is) = skips.1 skipped in (kind, kept.2 i kind at, is),
      ),
    )

-- the rule at the index is added behind those before it
pub one_more_rule : (before after : Lexer) (rules : List PatternRule) (count : ℕ) (none : PatternRule)
    → KeepsRules before after
    → ((i : ℕ) → i < count → (rule : PatternRule) → slice_get rules i ≡ Some rule
    → IsRule before i rule)
    → IsRule after count (get_or rules count none)
    → (i : ℕ) → i < count + 1 → (rule : PatternRule) → slice_get rules i ≡ Some rule
    → IsRule after i rule
one_more_rule before after rules count none kept was new =
    below_more _ _ (λ i h rule at. still before after kept i rule (was i h rule at))
    (λ rule at. subst (λ r. IsRule after count r) (get_or_from_slice_get rules count rule none at) new)
