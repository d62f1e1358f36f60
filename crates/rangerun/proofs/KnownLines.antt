-- What a line says that loads no text, and that it is answered so.
use Rattle.std.proofs.Common.{◌≡◌, ◌≢◌, ℕ, ℤ, List, ◌∷◌, ◌++◌, inl, inr, ap, ◌∙◌}
use Rattle.std.specs.Prelude.{Bool, Option, None, Some, IfSome, IfNone}
use Rattle.serde_json.specs.Data.{Data}
use Rattle.btree_range_map.specs.AnyRange.{AnyRange}
use Rattle.btree_range_map.specs.Item.{Item}
use Rattle.btree_range_map.specs.Order.{KeyOrder}
use Rattle.line_program.specs.Listing.{Writes}
use Rattle.rangerun.specs.declared.command_line.CommandLine.{CommandLine}
use Rattle.rangerun.specs.Conversation.{IsRead, Answers, AnswersLine}
use Rattle.rangerun.specs.Grammar.{SpellsFields, StandsAlone, word_text}
use Rattle.line_program.specs.Lines.{Lacks, IsSplitAt}
use Rattle.rangerun.proofs.LineWords.{none_by_fields, none_by_word}
use Rattle.rangerun.specs.Saving.{load_line}

module _ {K : Type 0} (order : KeyOrder K) (as_number : K → ℤ) (shape : K → Data)
    (reads : Data → Bool) (is_read : Data → K → Type 0) where
  -- what a line without a space says, and one with a word and fields
  pub reads_word : (line : List ℕ) (command : Option (CommandLine K)) → Lacks 32 line
      → IfSome command (λ known. StandsAlone known × (line ≡ word_text known))
      → IfNone command ((known : CommandLine K) → StandsAlone known → line ≡ word_text known → ⊥)
      → IsRead order as_number shape reads is_read line command
  reads_word line None lacks found none = none_by_word order.is_key as_number line lacks none
  reads_word line (Some known) lacks found none = inl found

  pub reads_fields : (line word fields : List ℕ) (command : Option (CommandLine K))
      → IsSplitAt 32 line word fields
      → IfSome command (λ known. SpellsFields order.is_key as_number fields known
      × (word ≡ word_text known))
      → IfNone command ((known : CommandLine K) → SpellsFields order.is_key as_number fields known
      → word ≡ word_text known → ⊥)
      → IsRead order as_number shape reads is_read line command
  reads_fields line word fields None cut found none =
      none_by_fields order.is_key as_number line word fields cut none
  reads_fields line word fields (Some known) cut found none =
      inr (fields, found.0, rw found.1 at cut.0)
