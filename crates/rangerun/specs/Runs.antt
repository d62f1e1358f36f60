-- What the commands among the lines of a conversation make of the map, all together.
use Rattle.std.proofs.Common.{inl, inr}
use Rattle.std.specs.Prelude.{◌≡◌, ℕ, ℤ, Bool, Option, Some, List, [], ◌∷◌, ◌++◌}
use Rattle.std.specs.Io.BufRead.{first_line, drop_through}
use Rattle.std.specs.Ordering.{int_eq}
use Rattle.serde_json.specs.Data.{Data}
use Rattle.btree_range_map.specs.AnyRange.{AnyRange}
use Rattle.btree_range_map.specs.Bindings.{Binds}
use Rattle.btree_range_map.specs.Command.{Command}
use Rattle.btree_range_map.specs.History.{BindOver}
use Rattle.btree_range_map.specs.Item.{Item}
use Rattle.btree_range_map.specs.Order.{KeyOrder}
use Rattle.btree_range_map.specs.Reply.{Reply}
use Rattle.btree_range_map.specs.Runs.{AreSteps}
use Rattle.rangerun.specs.declared.command_line.CommandLine.TheVariants.{Run}
use Rattle.rangerun.specs.declared.tag.Tag.{Tag}
use Rattle.line_program.specs.Conversation.{Conversation}
use Rattle.line_program.specs.Conversation.Conversation.{Ended, Answered}
use Rattle.rangerun.specs.Conversation.{AnswersLine, AnswersStored, Kept}
use Rattle.rangerun.specs.Tags.{IsAnswerOf}

-- the commands that some lines write, with the replies to them, and the list that was stored first
pub record Commands (K : Type 0) : Type 0 where
  pub first : List (Item (AnyRange K) ℤ)
  pub commands : List (Command K ℤ Tag)
  pub replies : List (Reply K ℤ ℤ)

abbrev pub no_commands : {K : Type 0} → List (Item (AnyRange K) ℤ) → Commands K
no_commands items = record { first = items; commands = []; replies = [] }

-- the commands are one run to the list, so that it binds each key as the last unrefused one on the
-- key says
pub record AreOneRun {K : Type 0} (order : KeyOrder K) (done : Commands K)
    (last : List (Item (AnyRange K) ℤ)) : Type 0 where
  pub chain : AreSteps order int_eq IsAnswerOf done.first done.commands done.replies last
  pub history : (k : K) → order.is_key k → (b : Option ℤ) → Binds order int_eq last k b
      → BindOver order int_eq IsAnswerOf k
      (λ u. Binds order int_eq done.first k u) done.commands done.replies b

-- of keys, each with its number, with the JSON value that it is written as, and with those that it
-- is read of
module _ {K : Type 0} (order : KeyOrder K) (as_number : K → ℤ) (shape : K → Data)
    (reads : Data → Bool) (is_read : Data → K → Type 0) where
  -- the commands up to a line and that of the line; none yet where the line loads a list
  abbrev pub with_line : Commands K → (kept : Kept K) (line answer : List ℕ) (next : Kept K)
      → AnswersLine order as_number shape reads is_read kept line answer next → Commands K
  with_line done kept line answer next (inl (json, is, inl loaded)) = no_commands next.items
  with_line done kept line answer next
      (inr (none, Some (Run command), read, (reply, step, text_is))) =
      record {
        first = done.first;
        commands = done.commands ++ command ∷ [];
        replies = done.replies ++ reply ∷ [];
      }
  with_line done kept line answer next other = done

  -- before each line and at the end the commands so far, since a list was loaded, are one run
  abbrev pub AreRuns : Commands K → (kept : Kept K) (input text rest : List ℕ) (last : Kept K)
      → Conversation (AnswersStored order as_number shape reads is_read) kept input text rest last
      → Type 0
  AreRuns done kept input text rest last (Ended _ _) = AreOneRun order done kept.items
  AreRuns done kept input text rest last
      (Answered _ next _ _ _ answer more _ some is_text (may_have, said) talk is) =
      AreOneRun order done kept.items
      × AreRuns (with_line done kept (first_line input) answer next said) next
      (drop_through 10 input) more rest last talk

  -- the text may answer the lines of the input before the rest of it, over an empty map, and the
  -- commands among them are runs
  abbrev pub AnswersRuns : List ℕ → List ℕ → List ℕ → Type 0
  AnswersRuns input text rest =
      (first : Kept K) × (last : Kept K) × (first.items ≡ [])
      × (talk : Conversation (AnswersStored order as_number shape reads is_read) first input text
      rest last) × AreRuns (no_commands first.items) first input text rest last talk
