-- Texts that lead nowhere, and that they begin with the same token, whatever follows.
use Rattle.std.proofs.Common.{◌≡◌, refl, sym, ap, subst, ◌∙◌, inl, inr, ℕ, ◌+◌, ◌-◌, ◌<◌, ◌≤◌, List, ◌∷◌, ◌++◌, Option, Some, None, take, length, get_or, arith}
use Rattle.std.specs.Option.{IfSome}
use Rattle.std.specs.Str.{chars, IsCharBoundary, IsUtf8}
use Rattle.std.proofs.Math.Logic.{∥∥₁_elim}
use Rattle.std.proofs.Props.{props}
use Rattle.std.proofs.lemmas.Bool.{cases_lt}
use Rattle.std.proofs.lemmas.Grind.{common_steps}
use Rattle.std.proofs.lemmas.List.{take-append-le, take_all, take_at, drop_at}
use lib.Seq.{take-add}
use Rattle.std.proofs.lemmas.Str.{chars-append}
use Rattle.state_sets.specs.Tokens.{AcceptsFirstBy}
use Rattle.state_sets.proofs.Leading.{path_in_parts}
use Rattle.state_sets.specs.declared.longest.Match.{Match}
use Rattle.charmoves.specs.Automata.{HasRule, IsStart}
use Rattle.lexing.specs.declared.lexer.Lexer.{Lexer}
use Rattle.lexing.specs.declared.machine.Machine.{Machine}
use Rattle.lexing.specs.Lexers.{Accepts, IsAcceptedBy, rules_in}
use Rattle.lexing.specs.MachineSteps.{GoesTo}
use Rattle.lexing.specs.Settled.{LeadsNowhere}
use Rattle.lexing.specs.Tokens.{BeginsWithNone, IsToken}
use Rattle.lexing.proofs.Running.{IsThere}

take_past : (xs ys : List ℕ) (n : ℕ) → length xs ≤ n
    → take n (xs ++ ys) ≡ xs ++ take (n - length xs) ys
take_past xs ys n long =
    let same : length xs + (n - length xs) ≡ n = omega (arith, long) in
    rw (take_at xs ys (length xs) refl, drop_at xs ys (length xs) refl, same) at
    (take-add (length xs) (n - length xs) (xs ++ ys))

module _ (lexer : Lexer) (text more : List ℕ) (utf8 : IsUtf8 text)
    (nowhere : LeadsNowhere lexer text) where
  -- the rule accepts the first bytes of the text
  abbrev AcceptsFront : List ℕ → ℕ → ℕ → Type 0
  AcceptsFront = AcceptsFirstBy (IsAcceptedBy lexer)

  -- nothing that begins with the text is accepted
  never : (rule : ℕ) (back : List ℕ) → ¬ IsAcceptedBy lexer rule (chars text ++ back)
  never rule back by = ∥∥₁_elim by (hlevel props)
      (λ (p, q, start, path, ends).
      let (s, front, rest) = (path_in_parts (HasRule (rules_in lexer)) (chars text) back p q).0 path in
      nowhere p s start front)

  never_whole : (rule : ℕ) → ¬ IsAcceptedBy lexer rule (chars text)
  never_whole rule by = ∥∥₁_elim by (hlevel props) (λ (p, q, start, path, ends). nowhere p q start path)

  -- a beginning that is accepted is shorter than the text
  shorter : (rule n : ℕ) → AcceptsFront text rule n → n < length text
  shorter rule n (cut, by) = elim (cases_lt n (length text)) [
    | inl below ↦ below
    | inr beyond ↦ absurd (never_whole rule (rw (take_all n text beyond) at by))
  ]

  cut_stays : (n : ℕ) → n < length text → IsCharBoundary text n → IsCharBoundary (text ++ more) n
  cut_stays n below cut = grind (arith, common_steps, cut)

  cut_was : (n : ℕ) → n < length text → IsCharBoundary (text ++ more) n → IsCharBoundary text n
  cut_was n below cut = grind (arith, common_steps, cut)

  accepted_more : (rule n : ℕ) → AcceptsFront text rule n
      → AcceptsFront (text ++ more) rule n
  accepted_more rule n (cut, by) =
      let below = shorter rule n (cut, by) in
      (cut_stays n below cut, rw (take-append-le n text more (omega (arith, below))) by)

  accepted_was : (rule n : ℕ) → AcceptsFront (text ++ more) rule n
      → AcceptsFront text rule n
  accepted_was rule n (cut, by) = elim (cases_lt n (length text)) [
    | inl below ↦
        (cut_was n below cut, rw (take-append-le n text more (omega (arith, below))) at by)
    | inr beyond ↦
        let back = take (n - length text) more in
        absurd (never rule (chars back)
        (rw (take_past text more n beyond, chars-append text back utf8) at by))
  ]

  pub token_in_more : (rule len : ℕ) → IsToken lexer text rule len
      → IsToken lexer (text ++ more) rule len
  token_in_more rule len is = record {
    nonempty = is.nonempty;
    accepted = accepted_more rule len is.accepted;
    longest = λ other n by. is.longest other n (accepted_was other n by);
    first = λ other by. is.first other (accepted_was other len by);
  }

  pub none_in_more : BeginsWithNone lexer text → BeginsWithNone lexer (text ++ more)
  none_in_more none rule n by = none rule n (accepted_was rule n by)

-- a machine is stuck at a character of the text
pub nowhere_when_stuck : (machine : Machine) (text read rest : List ℕ) (c state : ℕ)
    → chars text ≡ read ++ c ∷ rest → GoesTo machine state c None → ∥ IsThere machine read state ∥₁
    → LeadsNowhere machine.lexer text
nowhere_when_stuck machine text read rest c state split goes there p q start path =
    ∥∥₁_elim there (hlevel props)
    (λ was.
    let none = goes was.sets was.are was.all was.set was.stands in
    let (s, front, (t, step, back)) =
    (path_in_parts (HasRule (rules_in machine.lexer)) read (c ∷ rest) p q).0 (rw split at path) in
    none s t ((was.after s).1 (p, start, front)) step)

-- and what it finds is shorter than the text, unless it reads all of it
pub settled_when_stuck : (lexer : Lexer) (text : List ℕ) (result : Option Match)
    → LeadsNowhere lexer text → IfSome result (λ m. m.len < length text → LeadsNowhere lexer text)
settled_when_stuck lexer text None nowhere = tt
settled_when_stuck lexer text (Some m) nowhere = λ _. nowhere

pub settled_at_end : (lexer : Lexer) (text : List ℕ) (at : ℕ) (result : Option Match)
    → length text ≤ at → IfSome result (λ m. m.len ≡ at)
    → IfSome result (λ m. m.len < length text → LeadsNowhere lexer text)
settled_at_end lexer text at None end len = tt
settled_at_end lexer text at (Some m) end len = λ below. absurd (omega (arith, end, len, below))
