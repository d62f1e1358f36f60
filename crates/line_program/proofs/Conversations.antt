-- A conversation, seen in other states.
use Rattle.std.proofs.Common.{◌⊎◌, ℕ, List, Option, IfSome, arith}
use Rattle.line_program.specs.Conversation.{Conversation}
use Rattle.line_program.specs.Listing.{Writes}
use Rattle.line_program.specs.Conversation.Conversation.{Ended, Answered}
use Rattle.line_program.specs.Serving.{IsStopped}

module _ {S T : Type 0} (Answers : S → List ℕ → List ℕ → S → Type 0)
    (Others : T → List ℕ → List ℕ → T → Type 0) (see : S → T)
    (follows : (state : S) (line text : List ℕ) (next : S) → Answers state line text next
    → Others (see state) line text (see next)) where
  -- where each answer is one in what is seen of the states, so is the conversation
  pub conversation_seen : (first : S) (input text rest : List ℕ) (last : S)
      → Conversation Answers first input text rest last
      → Conversation Others (see first) input text rest (see last)
  conversation_seen first input text rest last (Ended _ _) = Ended (see first) input
  conversation_seen first input text rest last
      (Answered _ next _ _ _ answer more _ some is_text answers held is) =
      Answered _ _ _ _ _ _ _ _ some is_text (follows first _ answer next answers)
      (conversation_seen next _ more rest last held) is

-- what stopped with one kind of answers stopped with another that follows
pub stopped_as : (Silent Fails : Type 0) (input before after : Option (List ℕ))
    (Talks Answers : List ℕ → List ℕ → List ℕ → Type 0)
    → ((bytes text rest : List ℕ) → Talks bytes text rest → Answers bytes text rest)
    → Silent ⊎ IsStopped Talks Fails input before after
    → Silent ⊎ IsStopped Answers Fails input before after
stopped_as Silent Fails input before after Talks Answers follows stopped = grind (arith, follows)

-- and what was answered
pub answered_as : (input before after : Option (List ℕ)) (Talks Answers : List ℕ → List ℕ → Type 0)
    → ((bytes text : List ℕ) → Talks bytes text → Answers bytes text)
    → IfSome input (λ bytes. Writes before after (λ text. Talks bytes text))
    → IfSome input (λ bytes. Writes before after (λ text. Answers bytes text))
answered_as input before after Talks Answers follows answered = grind (arith, follows)
