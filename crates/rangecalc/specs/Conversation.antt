-- What four maps answer to lines of text, from the first to the last.
use Rattle.std.specs.Prelude.{◌≡◌, ◌⊎◌, ◌↔◌, ℕ, ℤ, Bool, IsTrue, List, [], codes}
use Rattle.btree_range_map.specs.AnyRange.{AnyRange}
use Rattle.btree_range_map.specs.BoxStorage.{BoxStorage}
use Rattle.btree_range_map.specs.Holding.{box_items}
use Rattle.btree_range_map.specs.Item.{Item}
use Rattle.btree_range_map.specs.Order.{KeyOrder}
use Rattle.line_program.specs.Conversation.{Conversation}
use Rattle.rangecalc.specs.Answers.{IsAnswer, IsChanged, IsListed}
use Rattle.rangecalc.specs.Lines.{BeginsWith, Says}
use Rattle.rangecalc.specs.Named.{at, each, put}
use Rattle.rangecalc.specs.Ranges.{Ranges}
use Rattle.rangecalc.specs.Replies.{SpellsReply, truth_text}
use Rattle.rangecalc.specs.Two.{AreRelated, IsAmending, IsCombination, IsKeeping, IsSplit}
use Rattle.rangecalc.specs.declared.answer.Reply.{Reply}
use Rattle.rangecalc.specs.declared.line.Command.{Command}
use Rattle.rangecalc.specs.declared.line.Command.TheVariants.{Change, Ask, List as Lists, Split, Compare, Combine, Keep, Amend}
use Rattle.rangecalc.specs.declared.named.Name.{Name}
use Rattle.rangecalc.specs.declared.named.Named.{Named}

abbrev pub stored_in : {K : Type 0} → Named (BoxStorage (Item (AnyRange K) ℤ)) → Named (Ranges K)
stored_in maps = each box_items maps

abbrev pub none_stored : {K : Type 0} → Named (Ranges K)
none_stored = record { a = []; b = []; c = []; d = [] }

module _ {K : Type 0} (order : KeyOrder K) where
  -- what a command to the map with a name makes of the four lists, with the text that answers it
  abbrev pub IsDone : Name → Command K → List ℕ → Named (Ranges K) → Named (Ranges K) → Type 0
  IsDone name (Change change) text old new =
      (reply : Reply K) × (after : Ranges K) × IsChanged order change reply (at old name) after
      × SpellsReply reply text × (new ≡ put old name after)
  IsDone name (Ask question) text old new =
      (reply : Reply K) × (levels : ℕ) × IsAnswer order question reply (at old name) levels
      × SpellsReply reply text × (new ≡ old)
  IsDone name (Lists listing) text old new =
      IsListed order listing (at old name) text × (new ≡ old)
  IsDone name (Split key) text old new =
      (reply : Reply K) × IsSplit order name key reply old new × SpellsReply reply text
  IsDone name (Compare relation other) text old new =
      (answer : Bool)
      × (IsTrue answer ↔ AreRelated order relation (at old name) (at old other))
      × (text ≡ truth_text answer) × (new ≡ old)
  IsDone name (Combine way first second) text old new =
      (reply : Reply K) × IsCombination order name way first second reply old new
      × SpellsReply reply text
  IsDone name (Keep kept first second) text old new =
      (reply : Reply K) × IsKeeping order name kept first second reply old new
      × SpellsReply reply text
  IsDone name (Amend amendment other) text old new =
      (reply : Reply K) × IsAmending order name amendment other reply old new
      × SpellsReply reply text

  -- the text that answers a line: of the command that the line says, `bad line`, or `memory` where
  -- none is left for a list of ranges
  abbrev pub AnswersLine : List ℕ → List ℕ → Named (Ranges K) → Named (Ranges K) → Type 0
  AnswersLine line text old new =
      ((text ≡ codes "bad line\n") × (new ≡ old))
      ⊎ ((text ≡ codes "memory\n") × (new ≡ old)
      × ((name : Name) × BeginsWith line name (codes "from")))
      ⊎ ((name : Name) × (command : Command K) × Says line name command
      × IsDone name command text old new)

  -- the text may answer the lines of the input before the rest of it, over empty maps: one answer
  -- for each line, in order
  pub record IsConversation (input text rest : List ℕ) : Type 0 where
    pub last : Named (Ranges K)
    pub talk : Conversation (λ old line text new. AnswersLine line text old new) none_stored input
        text rest last
