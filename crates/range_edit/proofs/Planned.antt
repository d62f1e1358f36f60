-- That a container can be changed as planned, and how many items it then has.
use Rattle.range_edit.proofs.Common.{common_steps, ◌≡◌, ℕ, ◌+◌, ◌*◌, ◌≤◌, List, ◌++◌, length, take, drop, arith, Option, Bool, IsEquivalence, ForSome, Bound, KeyOrder, IsLawful, AnyRange, rank_or_len, Item, kept_at, good_at, IsGoodBorder, IsLeftShape, IsRightShape, AreEnds, option_items, Border}
use Rattle.range_edit.specs.declared.reach.Ends.{Ends}
use Rattle.range_edit.proofs.BoundEdits.{shape_kept, border_good}
use Rattle.range_edit.proofs.Lengths.{one_item, changed_length, border_length}
use Rattle.range_edit.proofs.SidePlans.{IsPlan}

-- the borders and the run are such that a container can be changed so
pub record IsFit {K V P : Type 0} (is_good : P → Type 0) (rank : P → ℕ)
    (items : List (Item (AnyRange K) V)) (left right : Border K P) (from : Option P) (count : ℕ)
    (at end : ℕ) (before after : Option (Item (AnyRange K) V))
    (start finish : Option (Bound K)) : Type 0 where
  pub left_good : IsGoodBorder is_good left
  pub right_good : IsGoodBorder is_good right
  pub good : ForSome from is_good
  pub in_range : rank_or_len rank (length items) from + count ≤ length items
  pub on_left : IsLeftShape is_good rank items left at
      (rank_or_len rank (length items) from) before start
  pub on_right : IsRightShape is_good rank items right
      (rank_or_len rank (length items) from + count) end after finish

module _ {K : Type 0} {order : KeyOrder K} {lawful : IsLawful order} {V : Type 0}
    {same : V → V → Bool} {equal : IsEquivalence same} {P : Type 0} {is_good : P → Type 0}
    {rank : P → ℕ} {items : List (Item (AnyRange K) V)} {r : AnyRange K} {place : ℕ}
    {border behind : Border K P} {from : Option P} {size : ℕ} {middle : List (Item (AnyRange K) V)} where
  -- what was planned fits a container that keeps its positions and its items
  pub planned_fits : {count : ℕ} {first last : Option P} (plan : IsPlan order same lawful equal
      is_good rank items r place count middle first last border behind from size) {is_good' : P → Type 0} {rank' : P → ℕ} {items' : List (Item (AnyRange K) V)}
      → ((p : P) → is_good p → is_good' p × (rank' p ≡ rank p)) → items' ≡ items
      → IsFit is_good' rank' items' border behind from size plan.left.at plan.right.end
      plan.left.rest plan.right.rest plan.left.start plan.right.finish
  planned_fits plan kept same_list = grind (arith, common_steps, plan.left.shape, plan.right.shape, plan.left.run, plan.ends, plan.right.side.in_range, kept_at, border_length, border_good, good_at, shape_kept)

  -- what is put in the place of the run decides how long the list is
  pub planned_size : {ends : Ends P} (plan : IsPlan order same lawful equal is_good rank items r
      place ends.window.count middle ends.first ends.last border behind from size)
      → AreEnds order same is_good rank items r ends place
      → (new put : List (Item (AnyRange K) V)) → new ≡ take plan.left.at items
      ++ option_items plan.left.rest ++ put ++ option_items plan.right.rest
      ++ drop plan.right.end items
      → 2 * length new + ends.window.count ≤ 2 * length items + 2 * length put + 2
  planned_size {ends} plan found new put made = grind (arith, common_steps, border_length, changed_length, one_item)
