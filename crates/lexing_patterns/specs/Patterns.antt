-- The tokens of a text by patterns.
use Rattle.std.specs.Prelude.{◌≡◌, ◌↔◌, ℕ, ◌≤◌, ◌<◌, List, [], ◌∷◌, length, take, Some, slice_get, IsTrue, ⊤}
use Rattle.std.specs.Str.{IsCharBoundary, IsUtf8}
use Rattle.btree_range_map.specs.Characters.{IsCharacter}
use Rattle.charmoves.specs.Automata.{HasRule, IsStart}
use Rattle.lexing.specs.declared.lexer.Lexer.{Lexer}
use Rattle.lexing.specs.Lexers.{Accepts, IsNameOf, IsSkipped, rules_in}
use Rattle.lexing.specs.Tokens.{IsToken}
use Rattle.regex_hir.specs.Re.{Re}
use Rattle.regex_hir.specs.Matches.{Matches}
use Rattle.regex_hir.specs.Meaning.{meaning}
use Rattle.regex_hir.specs.declared.hir.Hir.{Hir}
use Rattle.regex_syntax.specs.Grammar.{Names}
use Rattle.regex_syntax.specs.Verdict.{Reads, default_config}
use Rattle.lexing_patterns.specs.declared.draft.Draft.{Draft}
use Rattle.lexing_patterns.specs.declared.patterns.PatternRule.{PatternRule}
use Rattle.lexing_patterns.specs.Parts.{HasEdge, IsAmong}
use Rattle.lexing_patterns.specs.Drafts.{HasEnd, EndsAtOne}

-- the pattern is read as a tree, and this is what it means
abbrev pub IsReadAs : List ℕ → Re → Type 0
IsReadAs pattern re = (hir : Hir) × (names : Names) × Reads default_config pattern hir names
    × (re ≡ meaning hir)

-- each pattern is read as the one at its place
abbrev pub AreReadAs : List PatternRule → List Re → Type 0
AreReadAs [] [] = ⊤
AreReadAs [] (re ∷ res) = ⊥
AreReadAs (rule ∷ rules) [] = ⊥
AreReadAs (rule ∷ rules) (re ∷ res) = IsReadAs rule.pattern.now re × AreReadAs rules res

-- the pattern matches the whole text
abbrev pub MatchesAll : Re → List ℕ → Type 0
MatchesAll re text = ∥ Matches text re 0 (length text) ∥₁

module _ (patterns : List Re) (text : List ℕ) where
  -- the pattern of the rule matches the first bytes of the text
  abbrev pub MatchesFirst : ℕ → ℕ → Type 0
  MatchesFirst rule n = IsCharBoundary text n
      × ((re : Re) × (slice_get patterns rule ≡ Some re) × MatchesAll re (take n text))

  -- the longest piece with which the text begins that one of the patterns matches, of so many
  -- bytes, and the first such pattern
  pub record IsLongestMatch (rule len : ℕ) : Type 0 where
    pub nonempty : 0 < len
    pub matched : MatchesFirst rule len
    pub longest : (other n : ℕ) → MatchesFirst other n → n ≤ len
    pub first : (other : ℕ) → MatchesFirst other len → rule ≤ other

-- a text begins with a token of the lexer where it begins with a longest match of the patterns
abbrev pub IsLexerOf : List PatternRule → Lexer → Type 0
IsLexerOf rules lexer = (patterns : List Re) × AreReadAs rules patterns
    × ((text : List ℕ) → IsUtf8 text → (rule len : ℕ)
    → IsToken lexer text rule len ↔ IsLongestMatch patterns text rule len)

-- of each rule, with its index, this holds
abbrev pub EachRule : List PatternRule → (ℕ → PatternRule → Type 0) → Type 0
EachRule rules P = (i : ℕ) (rule : PatternRule) → slice_get rules i ≡ Some rule → P i rule

-- the lexer's rules have the names of these
abbrev pub HasNamesOf : List PatternRule → Lexer → Type 0
HasNamesOf rules lexer = EachRule rules (λ i rule. IsNameOf lexer i rule.name.now)

-- the lexer skips tokens of just those rules that are skipped
abbrev pub SkipsAs : List PatternRule → Lexer → Type 0
SkipsAs rules lexer = EachRule rules (λ i rule. IsSkipped lexer i ↔ IsTrue rule.skipped)

-- the lexer has the rules, start states and ends of the automata
pub record IsPoured (draft : Draft) (lexer : Lexer) : Type 0 where
  pub edges : (p c q : ℕ) → IsCharacter c
      → HasRule (rules_in lexer) p c q ↔ HasEdge draft.edges.items p c q
  pub starts : (p : ℕ) → IsStart (rules_in lexer) p ↔ IsAmong p draft.starts.items
  pub ends : EndsAtOne draft.ends.items
      → (q r : ℕ) → Accepts lexer q r ↔ HasEnd draft.ends.items q r
