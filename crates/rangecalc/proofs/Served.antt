-- A conversation with a program that keeps maps is one over their stored lists.
use Rattle.std.proofs.Common.{◌≡◌, ℕ, List}
use Rattle.btree_range_map.specs.Order.{KeyOrder}
use Rattle.line_program.proofs.Conversations.{conversation_seen}
use Rattle.line_program.specs.Conversation.{Conversation}
use Rattle.rangecalc.specs.Conversation.{AnswersLine, IsConversation, none_stored}
use Rattle.rangecalc.specs.Ranges.{Ranges}
use Rattle.rangecalc.specs.declared.named.Named.{Named}

module _ {K P : Type 0} (order : KeyOrder K) (stored : P → Named (Ranges K)) where
  abbrev AnswersProgram : P → List ℕ → List ℕ → P → Type 0
  AnswersProgram old line text new = AnswersLine order line text (stored old) (stored new)

  pub conversation_served : {first last : P} {bytes text rest : List ℕ} → stored first ≡ none_stored
      → Conversation AnswersProgram first bytes text rest last → IsConversation order bytes text
      rest
  conversation_served {last = last} empty talk = record {
    last = stored last;
    talk = rw empty at (conversation_seen AnswersProgram
        (λ old line text new. AnswersLine order line text old new) stored
        (λ state line text next answers. answers) _ _ _ _ _ talk);
  }
