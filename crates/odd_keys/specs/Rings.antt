-- A container with another item at a place.
use Rattle.std.specs.Prelude.{ℕ, ◌<◌, length}
use Rattle.std.specs.VecDeque.{deque_with_item}
use Rattle.std.proofs.Common.{subst, sym}
use Rattle.std.proofs.Math.ListN.{length-set}
use Rattle.odd_keys.specs.declared.ring.RingStorage.{RingStorage}

abbrev pub with_item_at : {T : Type 0} → RingStorage T → ℕ → T → RingStorage T
with_item_at s i x = record s { stored = deque_with_item s.stored i x; fits = s.fits }

pub good_with_item : {T : Type 0} (s : RingStorage T) (i : ℕ) (x : T) (j : ℕ)
    → j < length s.stored.items → j < length (with_item_at s i x).stored.items
good_with_item s i x j h = subst (λ n. j < n) (sym (length-set s.stored.items i x)) h
