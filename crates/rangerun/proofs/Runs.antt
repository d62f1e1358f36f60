-- The commands among the lines of a conversation are runs.
use Rattle.std.proofs.Common.{◌≡◌, ℕ, ℤ, Bool, List, [], ◌∷◌, ◌++◌, inl, inr, refl, subst, sym}
use Rattle.std.specs.Prelude.{Option, None, Some, IfSome}
use Rattle.std.proofs.lemmas.Cmp.{int_eq_equiv}
use Rattle.std.specs.Io.BufRead.{first_line, drop_through}
use Rattle.std.specs.Ordering.{int_eq}
use Rattle.serde_json.specs.Data.{Data}
use Rattle.btree_range_map.specs.AnyRange.{AnyRange}
use Rattle.btree_range_map.specs.Command.{Command}
use Rattle.btree_range_map.specs.Item.{Item}
use Rattle.btree_range_map.specs.LastCommands.{last_command_decides}
use Rattle.btree_range_map.specs.Order.{KeyOrder, IsLawful}
use Rattle.btree_range_map.specs.Reply.{Reply}
use Rattle.btree_range_map.specs.Runs.{IsStep, AreSteps}
use Rattle.rangerun.specs.declared.command_line.CommandLine.TheVariants.{Run, Show, Gaps, Len, Levels, Save}
use Rattle.rangerun.specs.declared.tag.Tag.{Tag}
use Rattle.line_program.specs.Conversation.{Conversation}
use Rattle.line_program.specs.Conversation.Conversation.{Ended, Answered}
use Rattle.rangerun.specs.Conversation.{AnswersLine, AnswersStored, IsConversation, Kept}
use Rattle.line_program.specs.Listing.{Writes}
use Rattle.rangerun.specs.Runs.{Commands, no_commands, with_line, AreOneRun, AreRuns, AnswersRuns}
use Rattle.rangerun.specs.Tags.{IsAnswerOf}

module _ {K : Type 0} (order : KeyOrder K) where
  -- a run that goes one step on
  one_more : (items middle last : List (Item (AnyRange K) ℤ)) (commands : List (Command K ℤ Tag))
      (replies : List (Reply K ℤ ℤ)) (command : Command K ℤ Tag) (reply : Reply K ℤ ℤ)
      → AreSteps order int_eq IsAnswerOf items commands replies middle
      → IsStep order int_eq IsAnswerOf middle command reply last
      → AreSteps order int_eq IsAnswerOf items (commands ++ command ∷ [])
      (replies ++ reply ∷ []) last
  one_more items middle last [] [] command reply run step = (last, rw run at step, refl)
  one_more items middle last (c ∷ commands) (r ∷ replies) command reply run step =
      (run.0, run.1, one_more run.0 middle last commands replies command reply run.2 step)
  one_more items middle last commands replies command reply run step = absurd run

module _ {K : Type 0} (order : KeyOrder K) (as_number : K → ℤ) (shape : K → Data)
    (reads : Data → Bool) (is_read : Data → K → Type 0) where
  abbrev IsChain : Commands K → List (Item (AnyRange K) ℤ) → Type 0
  IsChain done last = AreSteps order int_eq IsAnswerOf done.first done.commands done.replies last

  chain_after : (done : Commands K) (kept : Kept K) (line answer : List ℕ) (next : Kept K)
      (said : AnswersLine order as_number shape reads is_read kept line answer next)
      → IsChain done kept.items
      → IsChain (with_line order as_number shape reads is_read done kept line answer next said)
      next.items
  chain_after done kept line answer next (inl (json, is, inl loaded)) chain = refl
  chain_after done kept line answer next
      (inr (none, Some (Run command), read, (reply, step, text_is))) chain =
      one_more order done.first kept.items next.items done.commands done.replies command reply chain
      step
  chain_after done kept line answer next (inr (none, other, read, said)) chain =
      subst (λ (one : Kept K). IsChain done one.items) (sym said.1) chain
  chain_after done kept line answer next (inl (json, is, inr (cause, why, text_is, same))) chain =
      subst (IsChain done) (sym same) chain

  module _ (lawful : IsLawful order) where
    one_run : (done : Commands K) (items : List (Item (AnyRange K) ℤ)) → IsChain done items
        → AreOneRun order done items
    one_run done items chain = record {
      chain = chain;
      history =
          λ k key b h.
          last_command_decides order lawful int_eq int_eq_equiv IsAnswerOf k key done.first items
          done.commands done.replies chain b h;
    }

    conversation_is_runs : (done : Commands K) (kept : Kept K) (input text rest : List ℕ)
        (last : Kept K) → IsChain done kept.items
        → (talk : Conversation (AnswersStored order as_number shape reads is_read) kept input text
        rest last)
        → AreRuns order as_number shape reads is_read done kept input text rest last talk
    conversation_is_runs done kept input text rest last chain (Ended _ _) =
        one_run done kept.items chain
    conversation_is_runs done kept input text rest last chain
        (Answered _ next _ _ _ answer more _ some is_text (may_have, said) talk is) = (
          one_run done kept.items chain,
          conversation_is_runs (with_line order as_number shape reads is_read done kept
              (first_line input) answer next said) next (drop_through 10 input) more rest last
              (chain_after done kept (first_line input) answer next said chain) talk,
        )

    -- so what answers input answers it by runs
    pub answers_runs : (input text rest : List ℕ)
        → IsConversation order as_number shape reads is_read input text rest
        → AnswersRuns order as_number shape reads is_read input text rest
    answers_runs input text rest said = (
      said.first,
      said.last,
      said.empty,
      said.talk,
      conversation_is_runs (no_commands said.first.items) said.first input text rest said.last refl
          said.talk,
    )
