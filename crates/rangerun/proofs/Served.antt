-- A conversation with a program that keeps a map is one over its stored list.
use Rattle.std.proofs.Common.{◌≡◌, ℕ, ℤ, Bool, List, []}
use Rattle.serde_json.specs.Data.{Data}
use Rattle.btree_range_map.specs.Order.{KeyOrder}
use Rattle.line_program.proofs.Conversations.{conversation_seen}
use Rattle.line_program.specs.Conversation.{Conversation}
use Rattle.rangerun.specs.Conversation.{AnswersStored, IsConversation, Kept}

module _ {K P : Type 0} (order : KeyOrder K) (as_number : K → ℤ) (shape : K → Data)
    (reads : Data → Bool) (is_read : Data → K → Type 0) (kept : P → Kept K)
  where
    abbrev AnswersProgram : P → List ℕ → List ℕ → P → Type 0
    AnswersProgram old line text new =
        AnswersStored order as_number shape reads is_read (kept old) line text (kept new)

    pub conversation_served : {first last : P} {bytes text rest : List ℕ}
        → (kept first).items ≡ []
        → Conversation AnswersProgram first bytes text rest last
        → IsConversation order as_number shape reads is_read bytes text rest
    conversation_served {first = first} {last = last} empty talk = record {
      first = kept first;
      last = kept last;
      empty = empty;
      talk = conversation_seen AnswersProgram
          (AnswersStored order as_number shape reads is_read) kept
          (λ state line text next answers. answers) _ _ _ _ _ talk;
    }
