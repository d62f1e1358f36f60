-- Rules are read one after the other.
use Rattle.std.proofs.Common.{subst, sym, ℕ, ◌+◌, ◌<◌, List, [], ◌∷◌, ◌++◌, length, take, get_or}
use Rattle.std.proofs.lemmas.List.{take_more}
use Rattle.std.proofs.lemmas.Slice.Zip.{all_zipped_more}
use Rattle.lexing_patterns.specs.declared.patterns.PatternRule.{PatternRule}
use Rattle.lexer_handles.specs.declared.rules.Rule.{Rule}
use Rattle.lexer_handles.specs.Rules.{AreRead, IsReadAs}

-- one more is read
pub read_more : (rules : List Rule) (texts : List PatternRule) (n : ℕ) (rule : Rule)
    (text : PatternRule) → n < length rules → AreRead (take n rules) texts
    → IsReadAs (get_or rules n rule) text → AreRead (take (n + 1) rules) (texts ++ text ∷ [])
read_more rules texts n rule text within were is =
    subst (λ read. AreRead read (texts ++ text ∷ [])) (sym (take_more rules n rule within))
    (all_zipped_more IsReadAs (take n rules) texts (get_or rules n rule) text were is)
