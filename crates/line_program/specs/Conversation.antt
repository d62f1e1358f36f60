-- What a program answers to lines of text, from the first to the last.
use Rattle.std.specs.Prelude.{◌≡◌, ◌≢◌, ◌⊎◌, ℕ, List, [], ◌++◌}
use Rattle.std.specs.Io.BufRead.{first_line, drop_through}
use Rattle.std.specs.Str.{IsUtf8}

-- of states, and the texts that may answer a line in a state, each with the state that follows
module _ {S : Type 0} (Answers : S → List ℕ → List ℕ → S → Type 0) where
  -- the text answers the lines of the input before the rest of it, from the first state to the
  -- last: one answer for each line, in order, and each line is text
  pub data Conversation : S → List ℕ → List ℕ → List ℕ → S → Type 0 where
    Ended : (state : S) (input : List ℕ) → Conversation state input [] input state
    Answered : (state next last : S) (input text answer more rest : List ℕ)
        → input ≢ [] → IsUtf8 (first_line input) → Answers state (first_line input) answer next
        → Conversation next (drop_through 10 input) more rest last → text ≡ answer ++ more
        → Conversation state input text rest last

-- the next line of the rest is no text, or a read fails
abbrev pub IsUnreadable : Type 0 → List ℕ → Type 0
IsUnreadable Fails rest = ((rest ≢ []) × ¬ IsUtf8 (first_line rest)) ⊎ Fails
