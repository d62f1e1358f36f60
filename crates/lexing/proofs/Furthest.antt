-- A machine that reads as far as a text leads, by its bytes.
use Rattle.std.proofs.Common.{◌≡◌, ◌∙◌, sym, refl, subst, inl, inr, ℕ, ◌<◌, ◌≤◌, ◌+◌, ◌*◌, ◌/◌, ◌%◌, add-one, List, [], ◌∷◌, ◌++◌, drop, get_or, length, Option, Some, None, arith}
use Rattle.std.specs.Char.{len_utf8}
use Rattle.std.specs.Option.{IfSome}
use Rattle.std.specs.List.{slice_get}
use Rattle.std.specs.Str.{chars, IsCharBoundary, IsUtf8}
use Rattle.std.proofs.Math.Logic.{∥∥₁_elim}
use Rattle.std.proofs.Math.Seq.{drop-cons}
use Rattle.std.proofs.Math.Utf8.{encode}
use Rattle.std.proofs.Props.{props}
use Rattle.std.proofs.lemmas.Bool.{cases_lt}
use Rattle.std.proofs.lemmas.Grind.{common_steps}
use Rattle.std.proofs.lemmas.List.{drop_all}
use Rattle.std.proofs.lemmas.Option.{none-some, slice_get_read}
use Rattle.std.proofs.lemmas.Str.{chars-nil, chars_past_char, encode_ascii, length-encode, len_utf8_ascii, IsUtf8-drop, IsCharBoundary-after_ascii}
use Rattle.state_sets.specs.declared.longest.Match.{Match}
use Rattle.state_sets.proofs.Best.{best_grows, best_when_stuck, token_of_best}
use Rattle.state_sets.proofs.Reading.{bytes_of, bytes_of-push}
use Rattle.lexing.specs.declared.machine.Machine.{Machine}
use Rattle.lexing.specs.declared.step.Step.{Step}
use Rattle.lexing.specs.Tokens.{IsToken}
use Rattle.lexing.specs.Machines.{IsMachine, target}
use Rattle.lexing.specs.MachineSteps.{GoesTo, state_count}
use Rattle.lexing.specs.Runs.{IsCharacterAt}
use Rattle.lexing.specs.Settled.{LeadsNowhere}
use Rattle.lexing.proofs.Settled.{nowhere_when_stuck}
use Rattle.lexing.proofs.Running.{IsBestOf, IsThere, there_none, there_more, goes_by_step, nowhere_beyond_ascii}

-- the character of a byte of ASCII
ascii_at : (text : List ℕ) (at : ℕ) → IsUtf8 text → IsCharBoundary text at → at < length text
    → get_or text at 0 < 128 → IsCharacterAt text at (get_or text at 0)
ascii_at text at utf8 cut within ascii =
    let byte = get_or text at 0 in
    let split : drop at text ≡ encode byte ++ drop (at + 1) text =
    rw (encode_ascii byte ascii, add-one) (drop-cons text at 0 within) in
    rw (len_utf8_ascii byte ascii)
    (chars_past_char (drop at text) (drop (at + 1) text) byte (IsUtf8-drop text at utf8 cut) split)

module _ (machine : Machine) (text : List ℕ) where
  -- the rule is that of the state
  abbrev IsRuleOf : ℕ → ℕ → Type 0
  IsRuleOf state rule = slice_get machine.states.first_rules.items state ≡ Some (Some rule)

  -- the text is read up to the place; where the state has a rule, its longest token ends there
  pub record IsReading (state at : ℕ) : Type 0 where
    pub read : List ℕ
    pub whole : chars text ≡ read ++ chars (drop at text)
    pub bytes : at ≡ bytes_of read
    pub there : IsThere machine read state
    pub best : (rule : ℕ) → IsRuleOf state rule → 0 < at
        → IsBestOf machine read (Some (record { rule = rule; len = at }))

  pub reading_none : IsMachine machine.lexer machine.states → IsReading 0 0
  reading_none is = record {
    read = [];
    whole = refl;
    bytes = refl;
    there = there_none machine is;
    best = λ rule stands some. absurd (omega (arith, some));
  }

  pub reading_more : (state at c next : ℕ) → IsCharacterAt text at c
      → GoesTo machine state c (Some next) → IsReading state at → IsReading next (at + len_utf8 c)
  reading_more state at c next one goes was =
      let there = there_more machine was.read c state next goes was.there in
      let bytes : at + len_utf8 c ≡ bytes_of (was.read ++ c ∷ []) =
      omega (arith, bytes_of-push was.read c, length-encode c, was.bytes) in
      record {
        read = was.read ++ c ∷ [];
        whole = grind (arith, common_steps, was.whole, one);
        bytes = bytes;
        there = there;
        best = λ rule stands some.
            let first = there.are.first next (Some rule) there.set stands there.stands in
            best_grows _ _ _ was.read c there.set (Some rule) rule _ there.after first refl bytes;
      }

  module _ (utf8 : IsUtf8 text) (state at : ℕ) (reading : ∥ IsReading state at ∥₁)
      (result : Option Match) (some : IfSome result (λ _. 0 < at))
      (len : IfSome result (λ m. m.len ≡ at))
      (rule : IfSome result (λ m. IsRuleOf state m.rule)) where
    -- the whole text is read, or the next character leads nowhere
    token_of_reading : ((rule : ℕ) → IsRuleOf state rule → 0 < at → IsReading state at
        → IsBestOf machine (chars text) (Some (record { rule = rule; len = at })))
        → IfSome result (λ m. IsToken machine.lexer text m.rule m.len)
    token_of_reading best = by result some len rule
      where
        by : (found : Option Match) → IfSome found (λ _. 0 < at) → IfSome found (λ m. m.len ≡ at)
            → IfSome found (λ m. IsRuleOf state m.rule)
            → IfSome found (λ m. IsToken machine.lexer text m.rule m.len)
        by None some len stands = tt
        by (Some m) some len stands =
            ∥∥₁_elim reading (hlevel props)
            (λ was. rw len (token_of_best _ _ _ text utf8 (Some _) (best m.rule stands some was)))

    pub token_at_end : length text ≤ at → IfSome result (λ m. IsToken machine.lexer text m.rule m.len)
    token_at_end end =
        token_of_reading
        (λ rule stands some was.
        let none : drop at text ≡ [] = drop_all at text end in
        let whole : chars text ≡ was.read = grind (arith, common_steps, was.whole, chars-nil) in
        rw whole (was.best rule stands some))

    pub token_when_stuck : (c : ℕ) → IsCharacterAt text at c → GoesTo machine state c None
        → IfSome result (λ m. IsToken machine.lexer text m.rule m.len)
    token_when_stuck c one goes =
        token_of_reading
        (λ rule stands some was.
        let there = was.there in
        let none = goes there.sets there.are there.all there.set there.stands in
        let rest = chars (drop (at + len_utf8 c) text) in
        let split : chars text ≡ was.read ++ c ∷ rest = rw (← one) was.whole in
        let best = was.best rule stands some in
        rw split (best_when_stuck _ _ _ was.read rest c there.set _ there.after none best))

  pub nowhere_of_reading : (state at : ℕ) → ∥ IsReading state at ∥₁ → (c : ℕ)
      → IsCharacterAt text at c → GoesTo machine state c None → LeadsNowhere machine.lexer text
  nowhere_of_reading state at reading c one goes p q start path =
      ∥∥₁_elim reading (hlevel props)
      (λ was.
      nowhere_when_stuck machine text was.read (chars (drop (at + len_utf8 c) text)) c state
      (rw (← one) was.whole) goes ∣ was.there ∣₁ p q start path)

  -- the step of the byte at the place
  module _ (utf8 : IsUtf8 text) (first at : ℕ) (row : first % 256 ≡ 0)
      (within : first / 256 < state_count machine) (cut : IsCharBoundary text at)
      (more : at < length text) (byte : ℕ) (is : byte ≡ get_or text at 0) (fits : byte < 256)
      (step : Step) (reads : step ≡ get_or machine.states.steps.items (first + byte) step) where
    at_step : slice_get machine.states.steps.items (256 * (first / 256) + byte) ≡ Some step
    at_step =
        let steps = machine.states.steps.items in
        let place : 256 * (first / 256) + byte ≡ first + byte = omega arith in
        rw place (slice_get_read steps (length steps) _ step refl (omega (arith, machine.full)) reads)

    pub byte_goes : (next : Option ℕ) → target step ≡ next → byte < 128
        → GoesTo machine (first / 256) byte next
    byte_goes next to ascii = goes_by_step machine (first / 256) byte within step at_step next to ascii

    pub byte_stands : byte < 128 → IsCharacterAt text at byte
    byte_stands ascii = rw is (ascii_at text at utf8 cut more (omega (arith, is, ascii)))

    pub leads_by_ascii : (next : ℕ) → target step ≡ Some next → byte < 128
    leads_by_ascii next to =
        elim (cases_lt byte 128) [
          | inl below ↦ below
          | inr beyond ↦
              let none = nowhere_beyond_ascii machine (first / 256) byte within step at_step beyond fits in
              absurd (none-some next (sym none ∙ to))
        ]

    pub cut_behind : byte < 128 → IsCharBoundary text (at + 1)
    cut_behind ascii = IsCharBoundary-after_ascii text at utf8 more (omega (arith, is, ascii))

    pub reading_byte : (next : ℕ) → target step ≡ Some next → IsReading (first / 256) at
        → IsReading next (at + 1)
    reading_byte next to was =
        let ascii = leads_by_ascii next to in
        let P : ℕ → Type 0 = λ n. IsReading next (at + n) in
        let goes = byte_goes (Some next) to ascii in
        subst P (len_utf8_ascii byte ascii)
        (reading_more (first / 256) at byte next (byte_stands ascii) goes was)
