-- What a map answers to lines of text, from the first to the last.
use Rattle.std.specs.Prelude.{◌≡◌, ◌≢◌, ◌⊎◌, ℕ, ℤ, Bool, Option, None, Some, List, [], length, codes}
use Rattle.std.specs.Ordering.{int_eq}
use Rattle.serde_json.specs.Data.{Data}
use Rattle.line_program.specs.Conversation.{Conversation}
use Rattle.btree_range_map.specs.AnyRange.{AnyRange}
use Rattle.btree_range_map.specs.Depth.{HasLevels}
use Rattle.btree_range_map.specs.Item.{Item}
use Rattle.btree_range_map.specs.Order.{KeyOrder}
use Rattle.btree_range_map.specs.Reply.{Reply}
use Rattle.btree_range_map.specs.Runs.{IsStep}
use Rattle.rangerun.specs.declared.command_line.CommandLine.{CommandLine}
use Rattle.rangerun.specs.declared.command_line.CommandLine.TheVariants.{Run, Show, Gaps, Len, Levels, Save}
use Rattle.rangerun.specs.Grammar.{SpellsLine}
use Rattle.rangerun.specs.Replies.{SpellsReply, SpellsAll, SpellsGaps, SpellsLen, levels_text}
use Rattle.rangerun.specs.Saving.{load_line, SpellsSaved, AnswersLoad}
use Rattle.rangerun.specs.Tags.{IsAnswerOf}

-- the list that a map stores, and the levels of the tree that keeps it
pub record Kept (K : Type 0) : Type 0 where
  pub items : List (Item (AnyRange K) ℤ)
  pub levels : ℕ

abbrev pub kept_as : {K : Type 0} → List (Item (AnyRange K) ℤ) → ℕ → Kept K
kept_as items levels = record { items = items; levels = levels }

-- of keys, each with its number, with the JSON value that it is written as, and with those that it
-- is read of
module _ {K : Type 0} (order : KeyOrder K) (as_number : K → ℤ) (shape : K → Data)
    (reads : Data → Bool) (is_read : Data → K → Type 0) where
  -- the command that the line writes, or none where it writes none
  abbrev pub IsRead : List ℕ → Option (CommandLine K) → Type 0
  IsRead line None = (known : CommandLine K) → SpellsLine order.is_key as_number line known → ⊥
  IsRead line (Some known) = SpellsLine order.is_key as_number line known

  -- the text that may answer a command over what is kept, and what is kept then: the same list in
  -- the same tree, but where a command is done
  abbrev pub Answers : Kept K → Option (CommandLine K) → List ℕ → Kept K → Type 0
  Answers kept None text next = (text ≡ codes "bad line\n") × (next ≡ kept)
  Answers kept (Some Show) text next =
      SpellsAll order as_number kept.items text × (next ≡ kept)
  Answers kept (Some Gaps) text next =
      SpellsGaps order as_number kept.items text × (next ≡ kept)
  Answers kept (Some Len) text next = SpellsLen order as_number kept.items text × (next ≡ kept)
  Answers kept (Some Levels) text next = (text ≡ levels_text kept.levels) × (next ≡ kept)
  Answers kept (Some Save) text next = SpellsSaved shape kept.items text × (next ≡ kept)
  Answers kept (Some (Run command)) text next =
      (reply : Reply K ℤ ℤ) × IsStep order int_eq IsAnswerOf kept.items command reply next.items
      × SpellsReply order as_number reply text

  -- the text that may answer a line: one that loads a text, or any other
  abbrev pub AnswersLine : Kept K → List ℕ → List ℕ → Kept K → Type 0
  AnswersLine kept line text next =
      ((json : List ℕ) × (line ≡ load_line json)
      × AnswersLoad order reads is_read kept.items json text next.items)
      ⊎ (((json : List ℕ) → line ≢ load_line json)
      × (command : Option (CommandLine K)) × IsRead line command
      × Answers kept command text next)

  -- the same where the tree has no more and no fewer levels than one that keeps the list may have
  abbrev pub AnswersStored : Kept K → List ℕ → List ℕ → Kept K → Type 0
  AnswersStored kept line text next =
      HasLevels (length kept.items) kept.levels × AnswersLine kept line text next

  -- the text may answer the lines of the input before the rest of it, over an empty map
  pub record IsConversation (input text rest : List ℕ) : Type 0 where
    pub first : Kept K
    pub last : Kept K
    pub empty : first.items ≡ []
    pub talk : Conversation AnswersStored first input text rest last
