-- States, and what changes of the mode make of them.
use Rattle.std.proofs.Common.{◌≡◌, ◌↔◌, ◌⊎◌, inl, inr, refl, ℕ, ◌<◌, List, [], ◌∷◌, ◌++◌, length, Some, arith}
use Rattle.std.specs.List.{slice_get}
use Rattle.std.specs.Str.{IsCharBoundary}
use Rattle.std.proofs.lemmas.Grind.{common_steps}
use Rattle.std.proofs.lemmas.Option.{slice_get_cases, slice_get_within}
use Rattle.lexing_modes.specs.declared.change.ModeChange.{ModeChange}
use Rattle.lexing_modes.specs.declared.change.ModeChange.TheVariants.{Stay, Enter, Push, Pop}
use Rattle.lexing_modes.specs.Changes.{Names}
use Rattle.lexing_modes.specs.States.{State, IsStateOf, LeadsTo, first_state}

pub slice_get-push : {X : Type 0} (xs : List X) (y : X) (i : ℕ) (z : X)
    → (slice_get (xs ++ y ∷ []) i ≡ Some z)
    ↔ ((slice_get xs i ≡ Some z) ⊎ ((i ≡ length xs) × (y ≡ z)))
slice_get-push xs y i z =
    grind (arith, common_steps, slice_get_cases xs i, slice_get_cases (xs ++ y ∷ []) i)

module _ (count : ℕ) where
  -- the modes are among so many
  abbrev AreKnown : List ℕ → Type 0
  AreKnown modes = (i mode : ℕ) → slice_get modes i ≡ Some mode → mode < count

  pushed_known : (modes : List ℕ) (last : ℕ) → AreKnown modes → last < count
      → AreKnown (modes ++ last ∷ [])
  pushed_known modes last known here i mode at =
      grind (arith, slice_get-push modes last i mode, known i mode)

  popped_known : (modes : List ℕ) (last : ℕ) → AreKnown (modes ++ last ∷ []) → AreKnown modes
  popped_known modes last known i mode at =
      known i mode ((slice_get-push modes last i mode).1 (inl at))

  last_known : (modes : List ℕ) (last : ℕ) → AreKnown (modes ++ last ∷ []) → last < count
  last_known modes last known =
      known (length modes) last ((slice_get-push modes last (length modes) last).1 (inr (refl, refl)))

  pub first_is_state : (text : List ℕ) → 0 < count → IsCharBoundary text 0
      → IsStateOf count text first_state
  first_is_state text some boundary = record {
    boundary = boundary;
    known = some;
    below = λ i mode at. absurd (grind (arith, slice_get_within {A = ℕ} [] i mode at));
  }

  -- behind a change the modes are among as many as before
  pub state_behind : (text : List ℕ) (change : ModeChange) (before moved : State) (place : ℕ)
      → IsStateOf count text before → LeadsTo change before moved
      → ((mode : ℕ) → Names change mode → mode < count) → IsCharBoundary text place
      → IsStateOf count text (record { place = place; mode = moved.mode; below = moved.below })
  state_behind text Stay before moved place was leads named boundary = record {
    boundary = boundary;
    known = rw leads.0 was.known;
    below = rw leads.1 was.below;
  }
  state_behind text (Enter mode) before moved place was leads named boundary = record {
    boundary = boundary;
    known = rw leads.0 (named mode refl);
    below = rw leads.1 was.below;
  }
  state_behind text (Push mode) before moved place was leads named boundary = record {
    boundary = boundary;
    known = rw leads.0 (named mode refl);
    below = rw leads.1 (pushed_known before.below before.mode was.below was.known);
  }
  state_behind text Pop before moved place was leads named boundary = record {
    boundary = boundary;
    known = last_known moved.below moved.mode (rw leads at was.below);
    below = popped_known moved.below moved.mode (rw leads at was.below);
  }
