-- A position of a container, the items after it that lie together, and the rest.
use Rattle.std.proofs.Common.{◌≡◌, ℕ, ◌+◌, ◌<◌, List, ◌∷◌, ◌++◌, length, take, drop, get_or, Option, Some, None, ap, sym, ◌∙◌}
use Rattle.std.proofs.lemmas.List.{drop-drop, drop_more}
use Rattle.range_algebra.proofs.Lists.{list_is_take_and_drop}
use Rattle.range_store.specs.ListRanks.{IsAt, rank_or_len}

module _ {T P : Type 0} (is_good : P → Type 0) (rank : P → ℕ) (items : List T) where
  rank_at : (after : Option P) (n : ℕ) → IsAt is_good rank (length items) after n
      → rank_or_len rank (length items) after ≡ n
  rank_at None n at = sym at
  rank_at (Some p) n at = at.1

  pub chunk_and_rest : (r : ℕ) (x : T) (near : List T) (after : Option P) → r < length items
      → x ≡ get_or items r x → near ≡ take (length near) (drop (r + 1) items)
      → IsAt is_good rank (length items) after (r + 1 + length near)
      → drop r items ≡ x ∷ (near ++ drop (rank_or_len rank (length items) after) items)
  chunk_and_rest r x near after within read is at =
      let behind = drop (r + 1) items in
      let far : drop (length near) behind
      ≡ drop (rank_or_len rank (length items) after) items =
      drop-drop (length near) (r + 1) items
      ∙ ap (λ n. drop n items) (sym (rank_at after (r + 1 + length near) at)) in
      drop_more items r x within
      ∙ ap (λ y. y ∷ behind) (sym read)
      ∙ ap (λ ys. x ∷ ys)
      (list_is_take_and_drop behind (length near)
      ∙ ap (λ ys. ys ++ drop (length near) behind) (sym is)
      ∙ ap (λ ys. near ++ ys) far)
