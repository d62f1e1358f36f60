-- The row of a set in the making, one range of its characters after the other.
use Rattle.std.proofs.Common.{◌≡◌, refl, ◌↔◌, ◌⊎◌, inl, inr, ℕ, nat_eq, IsTrue, List, [], ◌∷◌, Some, None, BTreeSet, arith}
use Rattle.std.specs.List.{AllByRecursion}
use Rattle.std.specs.Ordering.{nat_cmp}
use Rattle.std.specs.BTreeSet.{contains}
use Rattle.std.proofs.lemmas.Bool.Decides.{nat_tests}
use Rattle.btree_range_map.specs.AnyRange.{AnyRange}
use Rattle.btree_range_map.specs.Item.{Item}
use Rattle.btree_range_map.specs.Characters.{IsCharacter, character_order}
use Rattle.btree_range_map.specs.Intervals.{Any}
use Rattle.btree_range_map.specs.Range.{Holds, IsKeyless}
use Rattle.btree_range_map.specs.Bindings.{IsBound, IsItemFor, BindsTo, IsBoundAfter}
use Rattle.btree_range_map.specs.Names.{bindings_of}
use Rattle.btree_range_map.specs.Pairs.{HasPair, AreValuesAt}
use Rattle.charmoves.specs.declared.rules.Rules.{Rules}
use Rattle.charmoves.specs.Automata.{Transitions, HasRule, AreReached, LeadsAmong}
use Rattle.lexing.specs.Machines.{Row, IsRowOf}
use Rattle.state_sets.specs.Listed.{KeepsAll, IsIndexOf}
use Rattle.lexing.specs.Budgets.{IsReached}
use Rattle.lexing.proofs.Meeting.{some_character, reached_more, held_or_not}

-- characters with the set of the states that they lead to
abbrev pub Entry : Type 0
Entry = Item (AnyRange ℕ) (BTreeSet ℕ)

abbrev Bindings : Type 0
Bindings = List (Item (AnyRange ℕ) ℕ)

bound_to : (items : Bindings) (c : ℕ) → IsBound character_order items c
    → (n : ℕ) × BindsTo character_order nat_eq items c n
bound_to [] c h = absurd h
bound_to (i ∷ rest) c (inl h) = (i.value, inl (h, grind (arith, nat_tests)))
bound_to (i ∷ rest) c (inr h) = let (n, b) = bound_to rest c h in (n, inr b)

is_bound : (items : Bindings) (c n : ℕ) → BindsTo character_order nat_eq items c n
    → IsBound character_order items c
is_bound [] c n h = h
is_bound (i ∷ rest) c n h = grind (arith, is_bound rest c n)

pair_bound : (items : List Entry) (c q : ℕ) → HasPair character_order (contains nat_cmp) items c q
    → IsBound character_order items c
pair_bound [] c q h = h
pair_bound (i ∷ rest) c q h = grind (arith, pair_bound rest c q)

-- the characters of the ranges so far lead to the sets of these
pub record IsRowSoFar (sets : List (BTreeSet ℕ)) (all : List Entry) (row : Row)
    (left : List Entry) : Type 0 where
  pub covers : (c : ℕ) → IsCharacter c → IsBound character_order all c
      → IsBound character_order (bindings_of row) c ⊎ IsBound character_order left c
  pub leads : (c n : ℕ) → IsCharacter c
      → BindsTo character_order nat_eq (bindings_of row) c n
      → (i : Entry) × IsItemFor character_order all c i × IsIndexOf sets i.value n
  pub within : (i : Entry) → Any (λ j. j ≡ i) left → Any (λ j. j ≡ i) all

pub row_none : (sets : List (BTreeSet ℕ)) (all left : List Entry) (row : Row)
    → bindings_of row ≡ [] → left ≡ all → IsRowSoFar sets all row left
row_none sets all left row none whole = grind arith

module _ (sets after : List (BTreeSet ℕ)) (keeps : KeepsAll sets after) (all : List Entry)
    (before new : Row) (i : Entry) (rest left : List Entry) (turn : left ≡ i ∷ rest) (n : ℕ)
    (index : IsIndexOf after i.value n)
    (bound : IsBoundAfter character_order nat_eq (bindings_of before) (bindings_of new) i.key n)
    (was : IsRowSoFar sets all before left) where
  here : Any (λ j. j ≡ i) left
  here = rw turn (inl refl)

  now_held : (c : ℕ) → IsCharacter c → Holds character_order i.key c
      → IsBound character_order (bindings_of new) c
  now_held c is holds =
      is_bound (bindings_of new) c n ((bound.held c is holds (Some n)).1 (grind (arith, nat_tests)))

  still_bound : (c : ℕ) → IsCharacter c → IsBound character_order (bindings_of before) c
      → IsBound character_order (bindings_of new) c
  still_bound c is h =
      elim (held_or_not i.key c) [
        | inl holds ↦ now_held c is holds
        | inr out ↦
            let (m, b) = bound_to (bindings_of before) c h in
            is_bound (bindings_of new) c m ((bound.others c is out (Some m)).1 b)
      ]

  pub row_more : IsRowSoFar after all new rest
  row_more = record {
    covers = λ c is h. elim (was.covers c is h) [
      | inl old ↦ inl (still_bound c is old)
      | inr more ↦ grind (arith, now_held c is)
    ];
    leads = λ c m is h. elim (held_or_not i.key c) [
      | inl holds ↦ grind (arith, nat_tests, bound.held c is holds (Some m), was.within i here)
      | inr out ↦ grind (arith, bound.others c is out (Some m), was.leads c m is, keeps)
    ];
    within = λ j h. was.within j (rw turn (inr h));
  }

keyed_at : (items : List Entry) (i : Entry)
    → AllByRecursion (λ j. ¬ IsKeyless character_order j.key) items → Any (λ j. j ≡ i) items
    → ¬ IsKeyless character_order i.key
keyed_at [] i keyed at = absurd at
keyed_at (j ∷ rest) i keyed at = grind (arith, keyed_at rest i keyed.1)

-- of the characters by which rules lead on from a set
module _ (rules : Rules) (set : BTreeSet ℕ) (leads : Transitions) (all : List Entry)
    (whole : all ≡ bindings_of leads) (among : LeadsAmong rules set leads)
    (values : (c : ℕ) → IsCharacter c → (i : Entry) → IsItemFor character_order all c i
    → AreValuesAt character_order (contains nat_cmp) all c (Some i.value)) where
  pairs : (c q : ℕ) → IsCharacter c → HasPair character_order (contains nat_cmp) all c q
      ↔ ((p : ℕ) × IsTrue (contains nat_cmp set p) × HasRule rules p c q)
  pairs c q is = rw whole (among c q is)

  leads_there : (i : Entry) (c : ℕ) → IsCharacter c → IsItemFor character_order all c i
      → AreReached rules set c i.value
  leads_there i c is at q = grind (arith, values c is i at q, pairs c q is)

  module _ (sets : List (BTreeSet ℕ)) (row : Row) (left : List Entry)
      (was : IsRowSoFar sets all row left) where
    -- texts lead to the next entry's states where they lead to the set
    pub next_reached : (i : Entry) (rest : List Entry) → left ≡ i ∷ rest
        → AllByRecursion (λ j. ¬ IsKeyless character_order j.key) all → IsReached rules set
        → IsReached rules i.value
    next_reached i rest turn keyed reached =
        let at = was.within i (rw turn (inl refl)) in
        let (c, is, holds) = some_character i.key (keyed_at all i keyed at) in
        reached_more rules set i.value c reached (leads_there i c is (holds, at))

    pub row_all : left ≡ [] → IsRowOf rules sets set row
    row_all none c is None never = λ p q has rule.
        grind (arith, was.covers c is, pair_bound all c q, pairs c q is)
    row_all none c is (Some n) to = grind (arith, was.leads c n is to, leads_there)
