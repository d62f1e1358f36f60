-- Tables as they are written.
use Rattle.std.specs.Prelude.{◌≡◌, ◌↔◌, ℕ, ◌+◌, ◌/◌, ◌%◌, Bool, not, ◌&&◌, ◌==◌, nat_le, nat_lt, List, [], ◌∷◌, ◌++◌, flat_map, codes, decimal, Option, Some, None, if◌then◌else◌, IsTrue}
use Rattle.lexing.specs.declared.lexer.Lexer.{Lexer}
use Rattle.lexing.specs.declared.table.Lead.{Lead}
use Rattle.lexing.specs.declared.table.TableState.{TableState}
use Rattle.lexing.specs.Lexers.{IsNameOf, IsSkipped}
use Rattle.lexing.specs.Tables.{IsTableOf}
use Rattle.lexing_patterns.specs.declared.patterns.PatternRule.{PatternRule}
use Rattle.tokens.specs.declared.language.Language.{Language}

-- the byte stands for itself in a string: it is no control character, quote, backslash or question
-- mark
abbrev pub stands_for_itself : ℕ → Bool
stands_for_itself byte =
    nat_le 32 byte && not (byte == 34) && not (byte == 63) && not (byte == 92) && not (byte == 127)

abbrev pub hex_digit : ℕ → ℕ
hex_digit digit = if nat_lt digit 10 then (48 + digit) else (87 + digit)

module _ (language : Language) where
  -- a byte in a string
  abbrev pub quoted_byte : ℕ → List ℕ
  quoted_byte byte =
      if stands_for_itself byte then byte ∷ []
      else (codes "\\x" ++ (hex_digit (byte / 16) ∷ hex_digit (byte % 16) ∷ [])
      ++ language.byte_close.now)

  abbrev pub rule_line : List ℕ → Bool → List ℕ
  rule_line name skipped =
      language.rule_open.now ++ flat_map quoted_byte name
      ++ (if skipped then language.skipped.now else language.kept.now)

  abbrev pub lead_text : Lead → List ℕ
  lead_text lead =
      language.lead_open.now ++ decimal lead.first ++ codes "," ++ decimal lead.last ++ codes ","
      ++ decimal lead.next ++ language.lead_close.now

  abbrev pub number_text : Option ℕ → List ℕ
  number_text None = language.no_rule.now
  number_text (Some rule) = language.number_open.now ++ decimal rule ++ language.number_close.now

  abbrev pub state_line : TableState → List ℕ
  state_line state =
      language.state_open.now ++ flat_map lead_text state.leads.items ++ language.leads_close.now
      ++ number_text state.rule ++ language.state_close.now

  abbrev pub rule_lines : List PatternRule → List ℕ
  rule_lines rules = flat_map (λ rule. rule_line rule.name.now rule.skipped) rules

  -- a table of rules as the language writes it
  abbrev pub table_text : List PatternRule → List TableState → List ℕ
  table_text rules table =
      language.head.now ++ rule_lines rules ++ language.middle.now
      ++ flat_map state_line table ++ language.tail.now

  -- a rule of the lexer as it is written
  abbrev pub WritesRule : Lexer → ℕ → List ℕ → Type 0
  WritesRule lexer rule line = (name : List ℕ) × (skipped : Bool) × IsNameOf lexer rule name
      × (IsTrue skipped ↔ IsSkipped lexer rule) × (line ≡ rule_line name skipped)

  -- the text is a table of the lexer, whose rules these are
  abbrev pub IsTableText : List PatternRule → Lexer → List ℕ → Type 0
  IsTableText rules lexer text = (table : List TableState) × IsTableOf lexer table
      × (text ≡ table_text rules table)
