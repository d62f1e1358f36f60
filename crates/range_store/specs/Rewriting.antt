-- A container with another item at an index.
use Rattle.std.specs.Prelude.{ℕ, ◌<◌, length}
use Rattle.std.specs.Vec.{with_item}
use Rattle.std.proofs.Common.{subst, sym}
use Rattle.std.proofs.Math.ListN.{length-set}
use Rattle.range_store.specs.declared.vec_storage.VecStorage.{VecStorage}

abbrev pub with_vec_item : {T : Type 0} → VecStorage T → ℕ → T → VecStorage T
with_vec_item s i x = record s { stored = with_item s.stored i x }

pub good_with : {T : Type 0} (s : VecStorage T) (i : ℕ) (x : T) (j : ℕ) → j < length s.stored.items
    → j < length (with_vec_item s i x).stored.items
good_with s i x j h = subst (λ n. j < n) (sym (length-set s.stored.items i x)) h
