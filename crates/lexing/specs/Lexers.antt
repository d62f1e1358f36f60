-- What a lexer's rules accept.
use Rattle.std.specs.Prelude.{◌≡◌, ◌↔◌, ℕ, ◌⊎◌, List, length, Some, IsTrue, slice_get}
use Rattle.std.specs.String.{string_bytes}
use Rattle.state_sets.specs.Tokens as tokens
use Rattle.charmoves.specs.declared.rules.Rules.{Rules}
use Rattle.charmoves.specs.Automata.{rules_of, HasRule, IsStart}
use Rattle.lexing.specs.declared.lexer.Kind.{Kind}
use Rattle.lexing.specs.declared.lexer.Lexer.{Lexer}

module _ (lexer : Lexer) where
  -- the automaton of the lexer
  abbrev pub rules_in : Rules
  rules_in = rules_of lexer.moves

  abbrev pub rule_count : ℕ
  rule_count = length lexer.kinds.items

  -- a token of the rule may end in the state
  abbrev pub Accepts : ℕ → ℕ → Type 0
  Accepts = tokens.IsRuleAt lexer.rule_at

  -- a path along the text from a start state to a state of the rule
  abbrev pub PathOf : ℕ → List ℕ → Type 0
  PathOf = tokens.PathOf (HasRule rules_in) (IsStart rules_in) Accepts

  -- the rule accepts the text: there is such a path
  abbrev pub IsAcceptedBy : ℕ → List ℕ → Type 0
  IsAcceptedBy = tokens.IsAcceptedBy (HasRule rules_in) (IsStart rules_in) Accepts

  -- the rule of this number
  abbrev pub IsKind : ℕ → Kind → Type 0
  IsKind rule kind = slice_get lexer.kinds.items rule ≡ Some kind

  -- tokens of the rule are skipped
  abbrev pub IsSkipped : ℕ → Type 0
  IsSkipped rule = (kind : Kind) × IsKind rule kind × IsTrue kind.skipped

  abbrev pub IsNameOf : ℕ → List ℕ → Type 0
  IsNameOf rule name = (kind : Kind) × IsKind rule kind × (string_bytes kind.name ≡ name)

module _ (before after : Lexer) where
  -- the rules of before accept the same, and are skipped or not as they were
  abbrev pub KeepsRules : Type 0
  KeepsRules = (rules_in after ≡ rules_in before)
      × ((q rule : ℕ) → Accepts after q rule ↔ Accepts before q rule)
      × ((rule : ℕ) (kind : Kind) → IsKind before rule kind → IsKind after rule kind)

  -- a token of this rule, and of no other, may end in the state; nothing else is changed
  abbrev pub AcceptsAlso : ℕ → ℕ → Type 0
  AcceptsAlso state rule = (q other : ℕ) → Accepts after q other
      ↔ (((q ≡ state) × (other ≡ rule)) ⊎ ((¬ (q ≡ state)) × Accepts before q other))
