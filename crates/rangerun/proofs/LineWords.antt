-- Which word a command line begins with, and what its fields say then.
use Rattle.std.proofs.Common.{◌≡◌, ◌≢◌, ℕ, ℤ, List, ◌∷◌, ◌++◌, ◌⊎◌, arith, inl, inr, refl, sym, ◌∙◌}
use Rattle.std.specs.Prelude.{true, codes}
use Rattle.btree_range_map.specs.AnyRange.{AnyRange}
use Rattle.btree_range_map.specs.Command.TheVariants.{Insert, InsertDisconnected, Remove, Update, Intersects}
use Rattle.rangerun.specs.declared.tag.Tag.{Tag}
use Rattle.rangerun.specs.declared.command_line.CommandLine.{CommandLine}
use Rattle.rangerun.specs.declared.command_line.CommandLine.TheVariants.{Run}
use Rattle.rangerun.specs.Grammar.{SpellsBinding, SpellsFields, SpellsLine, SpellsRange, SpellsUpdate, StandsAlone, word_text}
use Rattle.line_program.specs.Lines.{Lacks, IsSplitAt}
use Rattle.rangerun.specs.Saving.{load_line}
use Rattle.rangerun.proofs.Spelled.{has_byte, has_no_space, lacks_space, split_unique}

-- a text that is cut at its first space begins with the word before that
pub begins_with : (text word fields known rest : List ℕ) → IsSplitAt 32 text word fields
    → has_no_space known ≡ true → text ≡ known ++ 32 ∷ rest → (word ≡ known) × (fields ≡ rest)
begins_with text word fields known rest cut none e =
    split_unique 32 word known fields rest cut.1 (lacks_space known none) (sym cut.0 ∙ e)

module _ {K : Type 0} (IsKey : K → Type 0) (as_number : K → ℤ) where
  one_word : (known : CommandLine K) → has_no_space (word_text known) ≡ true
  one_word known = grind arith

  -- a word is refused where its fields are
  pub none_of_binding : (text fields : List ℕ) → (text ≡ codes "insert") ⊎ (text ≡ codes "try")
      → ((range : AnyRange K) (value : ℤ) → SpellsBinding IsKey as_number fields range value → ⊥)
      → (known : CommandLine K) → SpellsFields IsKey as_number fields known
      → text ≡ word_text known → ⊥
  none_of_binding text fields is none (Run (Insert range value)) spelled e =
      none range value spelled
  none_of_binding text fields is none (Run (InsertDisconnected range value)) spelled e =
      none range value spelled
  none_of_binding text fields is none known _ e = grind arith

  pub none_of_range : (text fields : List ℕ) → (text ≡ codes "remove") ⊎ (text ≡ codes "meets")
      → ((range : AnyRange K) → SpellsRange IsKey as_number fields range → ⊥)
      → (known : CommandLine K) → SpellsFields IsKey as_number fields known
      → text ≡ word_text known → ⊥
  none_of_range text fields is none (Run (Remove range)) spelled e = none range spelled
  none_of_range text fields is none (Run (Intersects range)) spelled e = none range spelled
  none_of_range text fields is none known _ e = grind arith

  pub none_of_update : (text fields : List ℕ) → text ≡ codes "update"
      → ((range : AnyRange K) (tag : Tag) → SpellsUpdate IsKey as_number fields range tag → ⊥)
      → (known : CommandLine K) → SpellsFields IsKey as_number fields known
      → text ≡ word_text known → ⊥
  none_of_update text fields is none (Run (Update range tag)) spelled e = none range tag spelled
  none_of_update text fields is none known _ e = grind arith

  -- a line with a space says what its word and its fields say
  pub none_by_fields : (text word fields : List ℕ) → IsSplitAt 32 text word fields
      → ((known : CommandLine K) → SpellsFields IsKey as_number fields known
      → word ≡ word_text known → ⊥) → (known : CommandLine K)
      → SpellsLine IsKey as_number text known → ⊥
  none_by_fields text word fields cut none known (inl (alone, e)) =
      has_byte 32 (word_text known) word fields (sym e ∙ cut.0)
      (lacks_space (word_text known) (one_word known))
  none_by_fields text word fields cut none known (inr (own, spelled, e)) =
      let same = begins_with text word fields (word_text known) own cut (one_word known) e in
      none known (rw same.1 spelled) same.0

  -- and one without a space what it does alone
  pub none_by_word : (text : List ℕ) → Lacks 32 text
      → ((known : CommandLine K) → StandsAlone known → text ≡ word_text known → ⊥)
      → (known : CommandLine K) → SpellsLine IsKey as_number text known → ⊥
  none_by_word text lacks none known (inl (alone, e)) = none known alone e
  none_by_word text lacks none known (inr (fields, spelled, e)) =
      has_byte 32 text (word_text known) fields e lacks

-- a line with another word, or with none, loads no text
pub loads_no_text : (line word fields : List ℕ) → IsSplitAt 32 line word fields
    → word ≢ codes "load" → (json : List ℕ) → line ≢ load_line json
loads_no_text line word fields cut other json e =
    other (begins_with line word fields (codes "load") json cut refl e).0

pub word_loads_no_text : (line : List ℕ) → Lacks 32 line → (json : List ℕ) → line ≢ load_line json
word_loads_no_text line lacks json e = has_byte 32 line (codes "load") json e lacks
