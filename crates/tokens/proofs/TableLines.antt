-- Tables that are written, one part after the other.
use Rattle.std.proofs.Common.{◌≡◌, refl, sym, ap, subst, ◌∙◌, ℕ, ◌+◌, ◌<◌, List, [], ◌++◌, length, get_or, drop, take, take_all, Option, Some, flat_map, arith}
use Rattle.std.proofs.lemmas.Grind.{common_steps}
use Rattle.std.proofs.lemmas.Bool.Decides.{nat_tests}
use Rattle.std.proofs.lemmas.List.{drop_all, take_more, flat_map_more}
use Rattle.std.proofs.lemmas.Option.{slice_get_cases}
use Rattle.std.specs.List.{slice_get}
use Rattle.std.specs.Io.KnownBytes.{Appends}
use Rattle.line_program.specs.Listing.{Writes}
use Rattle.line_program.proofs.Listing.{append_nil, appends_none, appends_then}
use Rattle.lexing.specs.declared.lexer.Lexer.{Lexer}
use Rattle.lexing.specs.Lexers.{IsNameOf}
use Rattle.lexing_patterns.specs.declared.patterns.PatternRule.{PatternRule}
use Rattle.tokens.specs.declared.language.Language.{Language}
use Rattle.lexing_mode_patterns.specs.Rules.{IsOfRules}
use Rattle.tokens.specs.TableTexts.{WritesRule, rule_line, rule_lines}
use Rattle.tokens.proofs.Lists.{item_drop}

-- the name of a rule is one
one_name : (lexer : Lexer) (i : ℕ) (one other : List ℕ) → IsNameOf lexer i one
    → IsNameOf lexer i other → one ≡ other
one_name lexer i one other h k = grind arith

-- the text of an item more
pub flat_more : {X : Type 0} (f : X → List ℕ) (xs : List X) (at : ℕ) (x : X)
    (before now after : Option (List ℕ)) → slice_get xs at ≡ Some x
    → Appends before now (flat_map f (take at xs)) → Appends now after (f x)
    → Appends before after (flat_map f (take (at + 1) xs))
flat_more f xs at x before now after there so_far one =
    let (within, is) = at_index in
    subst (Appends before after)
    (sym (ap (flat_map f) (take_more xs at x within) ∙ sym (flat_map_more f [] (take at xs) _) ∙ ap (λ y. flat_map f (take at xs) ++ f y) is))
    (appends_then before now after _ _ so_far one)
  where
    at_index : (at < length xs) × (get_or xs at x ≡ x)
    at_index = grind (arith, slice_get_cases xs at)

pub flat_all : {X : Type 0} (f : X → List ℕ) (xs : List X) (at : ℕ) (before now : Option (List ℕ))
    → at ≡ length xs → Appends before now (flat_map f (take at xs))
    → Appends before now (flat_map f xs)
flat_all f xs at before now ended so_far =
    subst (λ ys. Appends before now (flat_map f ys)) (take_all at xs (omega (arith, ended))) so_far

module _ (language : Language) (rules : List PatternRule) where
  -- what is written of a rule of the lexer is the line of the rule
  pub rule_line_is : (lexer : Lexer) → IsOfRules rules lexer
      → (number : ℕ) (line : List ℕ) → WritesRule language lexer number line
      → (rule : PatternRule) → slice_get rules number ≡ Some rule
      → line ≡ rule_line language rule.name.now rule.skipped
  rule_line_is lexer is number line writes rule there =
      grind (arith, nat_tests, is.skips number rule, one_name lexer number, is.named number rule)

  -- the lines of the first rules are written
  pub record HasRuleLines (number : ℕ) (before now : Option (List ℕ)) : Type 0 where
    pub written : List ℕ
    pub appended : Appends before now written
    pub goes_on : rule_lines language rules ≡ written ++ rule_lines language (drop number rules)

  pub rules_none : (known : Option (List ℕ)) → HasRuleLines 0 known known
  rules_none known = record { written = []; appended = appends_none known; goes_on = refl }

  pub rules_more : (number : ℕ) (rule : PatternRule) (before now after : Option (List ℕ))
      → slice_get rules number ≡ Some rule → HasRuleLines number before now
      → Writes now after (λ line. line ≡ rule_line language rule.name.now rule.skipped)
      → HasRuleLines (number + 1) before after
  rules_more number rule before now after there was (line, is, more) = record {
    written = was.written ++ line;
    appended = appends_then before now after was.written line was.appended more;
    goes_on = grind (arith, common_steps, was.goes_on, item_drop rules number rule there);
  }

  pub rules_all : (number : ℕ) (before now : Option (List ℕ)) → number ≡ length rules
      → HasRuleLines number before now → Appends before now (rule_lines language rules)
  rules_all number before now ended was = grind (arith, drop_all, append_nil)
