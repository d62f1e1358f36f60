-- Sets of states that texts lead to, one more after the other.
use Rattle.std.proofs.Common.{◌≡◌, refl, ◌⊎◌, inl, inr, ℕ, zero, suc, ◌<◌, List, [], ◌∷◌, ◌++◌, length, BTreeSet, arith}
use Rattle.std.proofs.lemmas.Grind.{common_steps}
use Rattle.std.proofs.lemmas.Option.{slice_get_within}
use Rattle.btree_range_map.specs.AnyRange.{AnyRange}
use Rattle.btree_range_map.specs.Characters.{IsCharacter, character_order, character_counted}
use Rattle.btree_range_map.specs.Counted.{counted_lawful}
use Rattle.btree_range_map.specs.HeldKeys.{held_or_not as key_held_or_not}
use Rattle.btree_range_map.specs.Range.{Holds, IsKeyless}
use Rattle.charmoves.specs.declared.rules.Rules.{Rules}
use Rattle.charmoves.specs.Automata.{HasRule, IsStart, AreReached}
use Rattle.state_sets.specs.Listed.{HaveSameStates, IsNewTo}
use Rattle.state_sets.proofs.Leading.{after_none, after_more}
use Rattle.state_sets.proofs.Lists.{slice_get-push}
use Rattle.lexing.specs.declared.error.BuildError.TheVariants.{TooLarge}
use Rattle.lexing.specs.Building.{AreFirst}
use Rattle.lexing.specs.Budgets.{IsReached, AreMet, IsBuildReason}

module _ (rules : Rules) where
  pub met_first : (sets : List (BTreeSet ℕ)) → AreFirst rules sets → AreMet rules sets
  met_first sets (set, only, starts) =
      grind (arith, after_none, slice_get-push, slice_get_within)

  -- one more, which is none of those that were met
  pub met_more : (sets after : List (BTreeSet ℕ)) (set copy : BTreeSet ℕ) → AreMet rules sets
      → IsReached rules set → IsNewTo sets set → HaveSameStates copy set
      → after ≡ sets ++ copy ∷ [] → AreMet rules after
  met_more sets after set copy met (text, by) new same pushed =
      let copied : IsReached rules copy = (text, λ q. rw (same q) (by q)) in
      record {
        reached = λ i s at. grind (arith, slice_get-push sets copy i s, met.reached i s);
        unlike = λ i j s t below at later alike.
            let first = slice_get-push sets copy i s in
            let second = slice_get-push sets copy j t in
            grind (arith, slice_get_within sets j t, met.unlike i j s t, new i s, same);
      }

  -- which would be beyond the budget
  pub met_beyond : (sets : List (BTreeSet ℕ)) (set : BTreeSet ℕ) (budget : ℕ) → AreMet rules sets
      → IsReached rules set → IsNewTo sets set → length sets ≡ budget
      → IsBuildReason rules budget TooLarge
  met_beyond sets set budget met reached new full = (
    sets ++ set ∷ [],
    met_more sets _ set set met reached new (λ q. refl) refl,
    grind (arith, common_steps),
  )

  -- what rules lead to from a set that texts lead to
  pub reached_more : (set next : BTreeSet ℕ) (c : ℕ) → IsReached rules set
      → AreReached rules set c next → IsReached rules next
  reached_more set next c (text, after) by =
      (text ++ c ∷ [], after_more (HasRule rules) (IsStart rules) text set next c after by)

-- one of the first numbers is such, or none is
search_to : (P : ℕ → Type 0) → ((k : ℕ) → P k ⊎ (¬ P k)) → (n : ℕ)
    → ((k : ℕ) × P k) ⊎ ((k : ℕ) → k < n → ¬ P k)
search_to P test zero = grind arith
search_to P test (suc n) = grind (arith, search_to P test n, test n)

-- a range holds a character, or it does not
pub held_or_not : (r : AnyRange ℕ) (c : ℕ) → Holds character_order r c
    ⊎ (¬ Holds character_order r c)
held_or_not = key_held_or_not character_order (counted_lawful character_counted)

held_character_or_not : (r : AnyRange ℕ) (c : ℕ)
    → (IsCharacter c × Holds character_order r c) ⊎ (¬ (IsCharacter c × Holds character_order r c))
held_character_or_not r c = grind (arith, held_or_not r c)

-- some character of a range that is not without any
pub some_character : (r : AnyRange ℕ) → ¬ IsKeyless character_order r
    → (c : ℕ) × IsCharacter c × Holds character_order r c
some_character r some =
    elim (search_to (λ c. IsCharacter c × Holds character_order r c) (held_character_or_not r)
    0x11_0000) [
      | inl (c, both) ↦ (c, both.0, both.1)
      | inr none ↦ absurd (some (λ c is holds. none c is.0 (is, holds)))
    ]
