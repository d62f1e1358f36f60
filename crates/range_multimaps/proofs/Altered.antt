-- What a copy of a set has once a value is put into it or taken out of it.
use Rattle.std.proofs.Common.{◌≡◌, sym, ◌∙◌, Bool, true, IsTrue, Option, Some, None, arith}
use Rattle.std.specs.Prelude.{IfSome}
use Rattle.std.specs.Cmp.{IsEquivalence}
use Rattle.range_runs.specs.Answers.{IsAsAnswered}
use Rattle.range_multimaps.specs.Members.{HasNone, HaveSame, HasAlso, HasAllBut, among}

module _ {S V : Type 0} (has : S → V → Bool) where
  -- the copy has what the set has, if there is one
  abbrev pub IsCopy : Option S → S → Type 0
  IsCopy old copy = (w : V) → has copy w ≡ among has old w

  module _ (eq : V → V → Bool) where
    -- what is put into a copy is added to what the set has
    pub added_to_copy : IsEquivalence eq → (old : Option S) (copy next : S) (v u : V)
        → IsCopy old copy → IsTrue (eq v u) → HasAlso has eq (Some copy) (Some next) u
        → HasAlso has eq old (Some next) v
    added_to_copy equal old copy next v u copied same also w = grind (arith, equal.congr v u w)

    -- a copy that has the value is as if it were added
    pub had_already : (old : Option S) (copy : S) (v : V) → IsCopy old copy
        → ((w : V) → IsTrue (eq v w) → has copy v ≡ has copy w) → has copy v ≡ true
        → HasAlso has eq old (Some copy) v
    had_already old copy v copied alike here w = grind (arith, copied w)

    -- a set to which a value was added is not empty
    pub not_void : IsEquivalence eq → (old : Option S) (next : S) (v : V)
        → HasAlso has eq old (Some next) v → HasNone has next → ⊥
    not_void equal old next v also none = grind (arith, also v, equal.refl v, none v)

    -- what is taken out of a copy is taken from what the set has
    pub taken_from_copy : (old copy next : S) (v : V) → HaveSame has old copy
        → HasAllBut has eq (Some copy) (Some next) v → HasAllBut has eq (Some old) (Some next) v
    taken_from_copy old copy next v alike but w = grind (arith, but w, alike w)

    -- a set without the value stays as it is
    pub none_taken : (old next : S) (v : V) → ((w : V) → IsTrue (eq v w) → has old v ≡ has old w)
        → HasAllBut has eq (Some old) (Some next) v → ¬ IsTrue (has old v) → HaveSame has old next
    none_taken old next v alike but absent w = grind (arith, alike w, but w)

  -- so does a copy have what the set has
  pub had_in_copy : (same : S → S → Bool) → ((s t : S) → IsTrue (same s t) → HaveSame has s t)
      → (old : Option S) (copy : S) (v : V) → IfSome old (λ s. IsTrue (same s copy))
      → IsTrue (among has old v) → has copy v ≡ true
  had_in_copy same respects None copy v equal here = cc
  had_in_copy same respects (Some s) copy v equal here = sym (respects s copy equal v) ∙ here

  -- a set that has the value is answered by each that equals it
  pub answered_by_copy : (same : S → S → Bool) (old : Option S) (copy : S) (v : V)
      → IfSome old (λ s. IsTrue (same s copy)) → IsTrue (among has old v)
      → IsAsAnswered same old (Some copy)
  answered_by_copy same None copy v equal here = cc
  answered_by_copy same (Some s) copy v equal here = equal
