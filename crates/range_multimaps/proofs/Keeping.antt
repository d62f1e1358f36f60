-- What an update of sets leaves as it was, by what each of its answers is.
use Rattle.std.proofs.Common.{Bool, IsTrue, List, Option, Some, None, Result, Ok, arith}
use denote.Ref.{Bor}
use Rattle.std.specs.Fn.{Shared}
use Rattle.std.specs.Cmp.{IsEquivalence}
use Rattle.std.specs.List.{AllByRecursion as Every}
use Rattle.range_keys.specs.Order.{KeyOrder}
use Rattle.range_algebra.specs.declared.any.AnyRange.{AnyRange}
use Rattle.range_algebra.proofs.Lists.{every_weaker}
use Rattle.range_store.specs.declared.storage.Item.{Item}
use Rattle.range_runs.specs.Answers.{Answered, IsAsAnswered, IsGivenBy, MayAnswer, IsUpdated}
use Rattle.range_runs.specs.Frames.{IsMergeFrame}
use Rattle.range_runs.proofs.RangePieces.{any_use}
use Rattle.range_edit.proofs.MergedItems.{way_follows}
use Rattle.range_multimaps.specs.Members.{HaveSame, HasAlso, HasAllBut}

module _ {S V : Type 0} {same : S → S → Bool} {has : S → V → Bool}
    (respects : (s t : S) → IsTrue (same s t) → HaveSame has s t)
    {eq : V → V → Bool} (laws : IsEquivalence eq) (v : V) where
  pub added_is_had : (old answer : Option S) (s : S) → HasAlso has eq old answer v
      → IsAsAnswered same answer (Some s) → IsTrue (has s v)
  added_is_had old None s also is = cc
  added_is_had old (Some t) s also is = grind (arith, respects t s is v, also v, laws.refl v)

  pub removed_is_not_had : (old answer : Option S) (s : S) → HasAllBut has eq old answer v
      → IsAsAnswered same answer (Some s) → ¬ IsTrue (has s v)
  removed_is_not_had old None s but is had = cc
  removed_is_not_had old (Some t) s but is had =
      grind (arith, respects t s is v, but v, laws.refl v)

module _ {K : Type 0} (order : KeyOrder K) {S : Type 0} {same : S → S → Bool} {F E : Type 0}
    {calls : Shared F (Option (Bor S) × Unit {0}) (Result (Option S) E)} {f : F}
    {IsSuch : S → Type 0}
    (told : (old answer : Option S) → MayAnswer calls f old (Ok answer)
    → (s : S) → IsAsAnswered same answer (Some s) → IsSuch s) where
  given_is_such : (answers : List (Answered K S)) (s : S)
      → Every (λ a. MayAnswer calls f a.value (Ok a.answer)) answers → IsGivenBy same answers s
      → IsSuch s
  given_is_such answers s given by =
      any_use (λ a. IsAsAnswered same a.answer (Some s))
      (λ a. MayAnswer calls f a.value (Ok a.answer)) answers by given
      (λ a is may. told a.value a.answer may s is)

  -- each set that comes in the place of others equals one of them, or is such
  pub gave_way_to_such : {items next : List (Item (AnyRange K) S)} {r : AnyRange K}
      → IsUpdated order same calls f items next r → IsMergeFrame order same items next r IsSuch
  gave_way_to_such done = grind (arith, every_weaker, given_is_such, way_follows)
