-- Numbered slots, each with something in it or nothing, of which one is filled anew.
use Rattle.std.proofs.Common.{◌≡◌, ℕ, ◌+◌, List, get_or, cond, Option, None, is_some, IsSome, count_by, arith}
use Rattle.std.proofs.Math.ListN.{set}
use Rattle.std.proofs.lemmas.List.{get_or-set_same, get_or_past}
use Rattle.std.proofs.lemmas.List.Sums.{sum_by-set}

module _ {X : Type 0} (slots : List (Option X)) (n : ℕ)
    (present : IsSome (get_or slots n None)) where
  pub slot_read : (slot : Option X) → get_or (set slots n slot) n None ≡ slot
  slot_read slot = get_or-set_same slots n slot None (grind (arith, get_or_past))

  pub slot_count : (slot : Option X) → count_by is_some (set slots n slot) + 1
      ≡ count_by is_some slots + cond (is_some slot) 1 0
  slot_count slot = grind (arith, sum_by-set, get_or_past)
