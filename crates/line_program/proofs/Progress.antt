-- How far a program has come that answers lines.
use Rattle.std.proofs.Common.{◌≡◌, ◌≢◌, ℕ, List, [], ◌++◌, Option, None, Some, IfSome, OnSome, refl, append_assoc}
use Rattle.std.specs.Io.KnownBytes.{Appends}
use Rattle.std.specs.Io.BufRead.{first_line, drop_through}
use Rattle.std.specs.Str.{IsUtf8}
use Rattle.line_program.specs.Conversation.{Conversation, IsUnreadable}
use Rattle.line_program.specs.Conversation.Conversation.{Ended, Answered}
use Rattle.line_program.specs.Listing.{Writes}
use Rattle.line_program.specs.Serving.{IsServed, IsStopped}
use Rattle.line_program.proofs.Listing.{append_nil, appends_then}

module _ {S : Type 0} (Answers : S → List ℕ → List ℕ → S → Type 0) (first : S) where
  -- the lines of the input before those that are left are answered
  pub record HasAnswered (input : List ℕ) (left before now : Option (List ℕ)) (state : S)
      : Type 0 where
    pub remaining : List ℕ
    pub left_is : left ≡ Some remaining
    pub written : List ℕ
    pub appended : Appends before now written
    pub goes_on : (more rest : List ℕ) (last : S)
        → Conversation Answers state remaining more rest last
        → Conversation Answers first input (written ++ more) rest last

  -- one more line is answered
  pub line_answered : (input left later before now next : Option (List ℕ)) (state changed : S)
      → IfSome input (λ bytes. HasAnswered bytes left before now state)
      → IfSome left (λ bytes. (bytes ≢ []) × (later ≡ Some (drop_through 10 bytes))
      × IsUtf8 (first_line bytes)
      × Writes now next (λ text. Answers state (first_line bytes) text changed))
      → IfSome input (λ bytes. HasAnswered bytes later before next changed)
  line_answered None left later before now next state changed answered one = tt
  line_answered (Some bytes) left later before now next state changed answered one =
      let (some, later_is, is_text, (text, answer, more)) = rw answered.left_is at one in record {
        remaining = drop_through 10 answered.remaining;
        left_is = later_is;
        written = answered.written ++ text;
        appended = appends_then before now next answered.written text answered.appended more;
        goes_on = λ others rest last held. rw append_assoc
            (answered.goes_on (text ++ others) rest last
            (Answered _ _ _ _ _ _ _ _ some is_text answer held refl));
      }

  -- what is written answers the lines before those that are left
  answered_so_far : (input : List ℕ) (left before now : Option (List ℕ)) (state : S)
      → (answered : HasAnswered input left before now state)
      → Writes before now
      (λ text. Conversation Answers first input text answered.remaining state)
  answered_so_far input left before now state answered = (
    answered.written,
    rw append_nil at (answered.goes_on [] answered.remaining state (Ended _ _)),
    answered.appended,
  )

  -- where no line is left, the whole input is answered
  pub answered_all : (input left later before now next : Option (List ℕ)) (state last : S)
      → IfSome input (λ bytes. HasAnswered bytes left before now state)
      → (last ≡ state) × (next ≡ now)
      × IfSome left (λ bytes. (bytes ≡ []) × (later ≡ Some []))
      → IsServed (λ bytes text rest. Conversation Answers first bytes text rest last) input before
      next × OnSome input (later ≡ Some [])
  answered_all None left later before now next state last answered ended = (tt, tt)
  answered_all (Some bytes) left later before now next state last answered (same, silent, ended) =
      let (empty, later_is) = rw answered.left_is at ended in
      (rw (same, silent, ← empty) (answered_so_far bytes left before now state answered), later_is)

  pub stopped_at : (Fails : Type 0) (input left before now next : Option (List ℕ))
      (state last : S) → IfSome input (λ bytes. HasAnswered bytes left before now state)
      → (last ≡ state) × (next ≡ now) → IfSome left (IsUnreadable Fails)
      → IsStopped (λ bytes text rest. Conversation Answers first bytes text rest last) Fails input
      before next
  stopped_at Fails None left before now next state last answered unchanged wrong = tt
  stopped_at Fails (Some bytes) left before now next state last answered (same, silent) wrong = (
    answered.remaining,
    rw answered.left_is at wrong,
    rw (same, silent) (answered_so_far bytes left before now state answered),
  )
