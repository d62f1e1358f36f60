-- No stored set is empty after a nonempty one was put in.
use Rattle.std.proofs.Common.{◌≡◌, Bool, IsTrue, List, ◌++◌, Result, Ok, Err, OnOk, OnErr, arith}
use Rattle.std.specs.List.{AllByRecursion as Every}
use Rattle.range_keys.specs.Order.{KeyOrder}
use Rattle.range_algebra.proofs.Lists.{any_none, every_append, every_left, every_right, every_weaker}
use Rattle.range_algebra.specs.Range.{IsEmptyRange}
use Rattle.range_algebra.specs.declared.any.AnyRange.{AnyRange}
use Rattle.range_store.specs.declared.storage.Item.{Item}
use Rattle.range_runs.specs.Frames.{IsSpliceFrame, IsInsertionFrame, IsNewItem}
use Rattle.range_multimaps.specs.Pairs.{HasNoEmptySet}
use Rattle.range_keys.proofs.Orderings.{greater_or_not}

-- what holds of each item holds of each after a run gave way to others, where it holds of those
pub each_after : {T : Type 0} (P : T → Type 0) {items next : List T}
    {AreSuch : List T → List T → Type 0} (way : IsSpliceFrame items next AreSuch) → Every P items
    → (Every P way.run → Every P way.others) → Every P next
each_after P way each follows =
    let all = rw way.before at each in
    let ahead = every_left P (way.front ++ way.run) way.behind all in
    rw way.after (every_append P (way.front ++ way.others) way.behind
    (every_append P way.front way.others (every_left P way.front way.run ahead)
    (follows (every_right P way.front way.run ahead)))
    (every_right P (way.front ++ way.run) way.behind all))

module _ {K : Type 0} (order : KeyOrder K) {S : Type 0} (same : S → S → Bool) (is_void : S → Type 0)
    (void_equal : (s t : S) → IsTrue (same s t) → is_void s → is_void t) where
  abbrev IsFull : Item (AnyRange K) S → Type 0
  IsFull i = ¬ is_void i.value

  new_full : (run : List (Item (AnyRange K) S)) (r : AnyRange K) (s : S) → ¬ is_void s
      → Every IsFull run → (j : Item (AnyRange K) S) → IsNewItem order same run r s j → IsFull j
  new_full run r s full all j new void = grind (arith, any_none)

  -- what gave way to a nonempty set has no empty one
  given_way_full : (items next : List (Item (AnyRange K) S)) (r : AnyRange K) (s : S) → ¬ is_void s
      → HasNoEmptySet is_void items → IsInsertionFrame order same items next r s
      → HasNoEmptySet is_void next
  given_way_full items next r s full before way =
      each_after IsFull way before (λ run.
      every_weaker _ IsFull way.others (new_full way.run r s full run) way.such.made)

  -- whatever the insertion of a nonempty set answers, no stored set is empty
  pub inserted_full : {A E : Type 0} (items next : List (Item (AnyRange K) S)) (r : AnyRange K)
      (s : S) (result : Result A E) → ¬ is_void s → HasNoEmptySet is_void items
      → OnOk result (¬ IsEmptyRange order r → IsInsertionFrame order same items next r s)
      → OnErr result (next ≡ items) → (IsEmptyRange order r → next ≡ items)
      → HasNoEmptySet is_void next
  inserted_full items next r s (Err e) full before way refused empty = rw refused before
  inserted_full items next r s (Ok a) full before way refused empty =
      grind (arith, given_way_full, greater_or_not)
