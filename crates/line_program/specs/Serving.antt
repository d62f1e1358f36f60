-- How far an input is answered, and which keys the arguments of a program name.
use Rattle.std.specs.Prelude.{◌≡◌, ◌⊎◌, ℕ, List, [], ◌∷◌, Option, IfSome, codes}
use Rattle.line_program.specs.Conversation.{IsUnreadable}
use Rattle.line_program.specs.Listing.{Writes}

-- the arguments are the one word `u8` or the one word `i32`
abbrev pub NamesKeys : List (List ℕ) → Type 0
NamesKeys words = (words ≡ codes "u8" ∷ []) ⊎ (words ≡ codes "i32" ∷ [])

-- of an input, the texts that may answer its lines, and the rest of it behind them
module _ (Answers : List ℕ → List ℕ → List ℕ → Type 0) where
  -- known input was answered to its end
  abbrev pub IsServed : Option (List ℕ) → Option (List ℕ) → Option (List ℕ) → Type 0
  IsServed input before after =
      IfSome input (λ bytes. Writes before after (λ text. Answers bytes text []))

  -- known input was answered up to a line that is no text, or at which a read failed, and no
  -- further
  abbrev pub IsStopped : Type 0 → Option (List ℕ) → Option (List ℕ) → Option (List ℕ) → Type 0
  IsStopped Fails input before after = IfSome input (λ bytes. (rest : List ℕ)
      × IsUnreadable Fails rest × Writes before after (λ text. Answers bytes text rest))
