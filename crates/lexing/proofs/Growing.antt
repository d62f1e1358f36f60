-- Machines in the making: a state more.
use Rattle.std.proofs.Common.{◌≡◌, ◌⊎◌, inl, inr, refl, ℕ, ◌<◌, ◌≤◌, ◌+◌, ◌*◌, List, [], ◌∷◌, ◌++◌, length, length-append, Option, Some, None, BTreeSet, arith}
use Rattle.std.specs.List.{slice_get}
use Rattle.std.proofs.lemmas.Grind.{common_steps}
use Rattle.std.proofs.lemmas.Option.{slice_get_cases, slice_get_within}
use Rattle.lexing.specs.declared.lexer.Lexer.{Lexer}
use Rattle.lexing.specs.declared.states.States.{States}
use Rattle.lexing.specs.declared.step.Step.{Step}
use Rattle.state_sets.specs.Listed.{KeepsAll}
use Rattle.state_sets.specs.Tokens.{IsFirstAmong}
use Rattle.state_sets.proofs.Lists.{slice_get-push, keeps_pushed}
use Rattle.lexing.specs.Lexers.{rules_in, Accepts}
use Rattle.lexing.specs.Machines.{Row, Goes, IsRowOf, IsStepOf, AreSteps, AreStates}
use Rattle.lexing.specs.Building.{AreFirst, IsRowAt, AddsSteps}

-- what stands at an index of before has stood there
stood : {X : Type 0} (before after : List X) → KeepsAll before after → (i : ℕ) (x : X)
    → i < length before → slice_get after i ≡ Some x → slice_get before i ≡ Some x
stood before after keeps i x within at = grind (arith, slice_get_cases before i, keeps i)

-- the first set, and no state
pub states_none : (lexer : Lexer) (sets : List (BTreeSet ℕ)) (states : States)
    → AreFirst (rules_in lexer) sets → states.rows.items ≡ [] → states.steps.items ≡ []
    → states.first_rules.items ≡ [] → AreStates lexer sets states
states_none lexer sets states (set, only, starts) rows steps rules = record {
  start = (set, rw only refl, starts);
  row = λ i row s at. absurd (grind arith);
  first = λ i found s at. absurd (grind arith);
  steps = λ i byte row step below at. absurd (grind arith);
  marked = grind arith;
  full = grind arith;
  few = grind arith;
}

module _ (lexer : Lexer) (sets after : List (BTreeSet ℕ)) (keeps : KeepsAll sets after) where
  goes_still : (set : BTreeSet ℕ) (c : ℕ) (next : Option ℕ) → Goes (rules_in lexer) sets set c next
      → Goes (rules_in lexer) after set c next
  goes_still set c None h = h
  goes_still set c (Some next) (reached, at, by) = (reached, keeps next reached at, by)

  module _ (before new : States) (row : Row) (first : Option ℕ)
      (was : AreStates lexer sets before) (room : length before.rows.items < length sets)
      (longer : length sets ≤ length after)
      (this : IsRowAt (rules_in lexer) sets after (length before.rows.items) row)
      (among : (set : BTreeSet ℕ) → slice_get after (length before.rows.items) ≡ Some set
      → IsFirstAmong (Accepts lexer) set first)
      (rows : new.rows.items ≡ before.rows.items ++ row ∷ [])
      (adds : AddsSteps row 256 before.steps.items new.steps.items)
      (rules : new.first_rules.items ≡ before.first_rules.items ++ first ∷ []) where
    row_at : (i : ℕ) (r : Row) → slice_get new.rows.items i ≡ Some r
        → ((slice_get before.rows.items i ≡ Some r) × (i < length before.rows.items))
        ⊎ ((i ≡ length before.rows.items) × (row ≡ r))
    row_at i r at =
        let parts = slice_get-push before.rows.items row i r in
        grind (arith, slice_get_within before.rows.items i r)

    steps_more : AreSteps new.rows.items new.steps.items
    steps_more i byte r step below at here =
        grind (
          arith,
          row_at i r,
          was.steps i byte r step below,
          stood before.steps.items new.steps.items adds.0 (256 * i + byte) step,
          adds.2 byte step below,
        )

    row_still : (i : ℕ) (r : Row) (set : BTreeSet ℕ) → slice_get new.rows.items i ≡ Some r
        → slice_get after i ≡ Some set → IsRowOf (rules_in lexer) after set r
    row_still i r set at stands =
        let here = stood sets after keeps i set in
        elim (row_at i r at) [
          | inl (old, within) ↦
              λ c is next binds. goes_still set c next (was.row i r set old (grind arith) c is next binds)
          | inr (last, same) ↦ rw (← same) (this set (grind arith))
        ]

    first_still : (i : ℕ) (f : Option ℕ) (set : BTreeSet ℕ)
        → slice_get new.first_rules.items i ≡ Some f → slice_get after i ≡ Some set
        → IsFirstAmong (Accepts lexer) set f
    first_still i f set at stands =
        let marked = was.marked in
        elim ((slice_get-push before.first_rules.items first i f).0 (rw rules at at)) [
          | inl old ↦
              let within = slice_get_within before.first_rules.items i f old in
              was.first i f set old
              (stood sets after keeps i set (omega (arith, within, room, marked)) stands)
          | inr (last, same) ↦ rw (← same) (among set (rw (← marked, ← last) stands))
        ]

    -- with the row and the first rule of the next set
    pub states_grow : AreStates lexer after new
    states_grow =
        let (set, at, is) = was.start in
        record {
          start = (set, keeps 0 set at, is);
          row = row_still;
          first = first_still;
          steps = steps_more;
          marked = grind (arith, common_steps, was.marked);
          full = grind (arith, common_steps, was.full, adds.1);
          few = grind (arith, common_steps);
        }

-- a step more
pub steps_push : (row : Row) (count : ℕ) (before mid after : List Step) (step : Step)
    → AddsSteps row count before mid → IsStepOf row count step → after ≡ mid ++ step ∷ []
    → AddsSteps row (count + 1) before after
steps_push row count before mid after step (keeps, longer, are) this pushed =
    let stays = keeps_pushed mid after step pushed in (
      λ i x at. stays i x (keeps i x at),
      rw pushed (omega (arith, length-append mid (step ∷ []))),
      λ byte other below at.
          elim ((slice_get-push mid step (length before + byte) other).0 (rw pushed at at)) [
            | inl old ↦
                let within = slice_get_within mid (length before + byte) other old in
                are byte other (omega arith) old
            | inr (last, same) ↦
                let here : byte ≡ count = omega arith in
                rw (here, ← same) this
          ],
    )

-- no step so far
pub steps_none : (row : Row) (steps : List Step) → AddsSteps row 0 steps steps
steps_none row steps = (λ i x h. h, omega arith, λ byte step h at. absurd (omega (arith, h)))
