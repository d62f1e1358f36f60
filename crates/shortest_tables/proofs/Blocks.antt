-- Blocks by their numbers, and the entries of their halves.
use Rattle.std.proofs.Common.{◌≡◌, ℕ, zero, suc, ◌+◌, ◌-◌, ◌≤◌, ◌<◌, ◌^◌, Bool, true, false, if◌then◌else◌, List, [], ◌∷◌, ◌++◌, append-nil, append_assoc, length, Option, Some, None, Decides, refl, ap, sym, ◌∙◌, arith, pow_pos}
use Rattle.shortest_tables.specs.Tables.{Bits, Table}
use Rattle.shortest_tables.specs.Labels.{Labels, Among, behind, choose, entry, half, has, join, labels, leaf, table_below}
use Rattle.shortest_tables.specs.Numbers.{number}
use Rattle.shortest_tables.specs.Entries.{placed}
use Rattle.shortest_tables.specs.declared.entries.Entry.{Entry}
use Rattle.shortest_tables.proofs.Made.{has_first}

pub number_low : (free from : ℕ) (a : Bits) → from ≤ number free from a
number_low zero from a = omega arith
number_low (suc free) from [] = omega arith
number_low (suc free) from (true ∷ a) = let h = number_low free (from + 2 ^ free) a in omega arith
number_low (suc free) from (false ∷ a) = number_low free from a

pub number_high : (free from : ℕ) (a : Bits) → number free from a < from + 2 ^ free
number_high zero from a = omega arith
number_high (suc free) from [] = let h = pow_pos (suc free) in omega (arith, h)
number_high (suc free) from (true ∷ a) = let h = number_high free (from + 2 ^ free) a in omega arith
number_high (suc free) from (false ∷ a) = let h = number_high free from a in omega arith

module _ {V : Type 0} where
  pub same_entry : (network other length' more : ℕ) (value : V) → network ≡ other → length' ≡ more
      → let first : Entry V = record { network = network; length = length'; value = value } in
      let second : Entry V = record { network = other; length = more; value = value } in
      first ≡ second
  same_entry network other length' more value e f = rw (e, f) refl

  placed_append : (width free from : ℕ) (t s : Table V)
      → placed width free from (t ++ s) ≡ placed width free from t ++ placed width free from s
  placed_append width free from [] s = refl
  placed_append width free from (e ∷ t) s =
      let first : Entry V = record { network = number free from e.0; length = (width - free) + length e.0; value = e.1 } in
      ap (λ x. first ∷ x) (placed_append width free from t s)

  placed_behind : (b : Bool) (width free from : ℕ) → suc free ≤ width → (t : Table V)
      → placed width (suc free) from (behind b t)
      ≡ placed width free (if b then from + 2 ^ free else from) t
  placed_behind b width free from h [] = refl
  placed_behind b width free from h (e ∷ t) =
      let start : ℕ = if b then from + 2 ^ free else from in
      let one : Entry V = record { network = number free start e.0; length = (width - free) + length e.0; value = e.1 } in
      let same : (width - suc free) + suc (length e.0) ≡ (width - free) + length e.0 = omega arith in
      let rest : List (Entry V) = placed width (suc free) from (behind b t) in
      ap (λ x. x ∷ rest) (same_entry (number free start e.0) (number free start e.0)
      ((width - suc free) + suc (length e.0)) ((width - free) + length e.0) e.1 refl same)
      ∙ ap (λ x. one ∷ x) (placed_behind b width free from h t)

module _ {V : Type 0} (eq : V → V → Bool) where
  -- the entries of a block, by those of its halves
  pub placed_table : (f : Bits → Option V) (width less from : ℕ) (above : Option V)
      → suc less ≤ width
      → let best : Labels V = labels eq (suc less) f in
      let label : Option V = choose eq best above in
      placed width (suc less) from (table_below eq (suc less) f above)
      ≡ placed width (suc less) from (entry eq best above)
      ++ placed width less from (table_below eq less (half false f) label)
      ++ placed width less (from + 2 ^ less) (table_below eq less (half true f) label)
  placed_table f width less from above h =
      let best : Labels V = labels eq (suc less) f in
      let label : Option V = choose eq best above in
      let top : Table V = entry eq best above in
      let low : Table V = table_below eq less (half false f) label in
      let high : Table V = table_below eq less (half true f) label in
      let first : List (Entry V) = placed width (suc less) from top in
      placed_append width (suc less) from top (behind false low ++ behind true high)
      ∙ ap (λ x. first ++ x) (placed_append width (suc less) from (behind false low) (behind true high))
      ∙ ap (λ x. first ++ (x ++ placed width (suc less) from (behind true high)))
      (placed_behind false width less from h low)
      ∙ ap (λ x. first ++ (placed width less from low ++ x)) (placed_behind true width less from h high)
      ∙ sym (append_assoc first (placed width less from low) (placed width less (from + 2 ^ less) high))

  module _ (eq_is : (a b : V) → Decides (eq a b) (a ≡ b)) where
    join_leaf : (x : Option V) → join eq (leaf eq x) (leaf eq x) ≡ leaf eq x
    join_leaf None = refl
    join_leaf (Some v) = rw (has_first eq eq_is v []) refl

    entry_chosen : (x above : Option V)
        → entry eq (leaf eq x) (choose eq (leaf eq x) above) ≡ []
    entry_chosen None above = refl
    entry_chosen (Some v) None = rw (has_first eq eq_is v []) refl
    entry_chosen (Some v) (Some u) =
        let P : Bool → Type 0 = λ t. has eq u (v ∷ []) ≡ t
        → entry eq (Among v []) (if t then Some u else Some v) ≡ [] in
        let go : P (has eq u (v ∷ [])) = elim (has eq u (v ∷ [])) as P [
          | true ↦ λ is. rw is refl
          | false ↦ λ is. rw (has_first eq eq_is v []) refl
        ] in go refl

    pub all_labels : (width : ℕ) (f : Bits → Option V) (x : Option V) → ((a : Bits) → f a ≡ x)
        → labels eq width f ≡ leaf eq x
    all_labels zero f x all = ap (λ y. leaf eq y) (all [])
    all_labels (suc width) f x all =
        ap (λ ls. join eq ls (labels eq width (half true f)))
        (all_labels width (half false f) x (λ a. all (false ∷ a)))
        ∙ ap (λ ls. join eq (leaf eq x) ls) (all_labels width (half true f) x (λ a. all (true ∷ a)))
        ∙ join_leaf x

    pub all_table : (width : ℕ) (f : Bits → Option V) (x above : Option V) → ((a : Bits) → f a ≡ x)
        → table_below eq width f above ≡ entry eq (leaf eq x) above
    all_table zero f x above all = ap (λ y. entry eq (leaf eq y) above) (all [])
    all_table (suc width) f x above all =
        let best = all_labels (suc width) f x all in
        let label : Option V = choose eq (labels eq (suc width) f) above in
        let none : entry eq (leaf eq x) label ≡ [] =
        ap (λ ls. entry eq (leaf eq x) (choose eq ls above)) best ∙ entry_chosen x above in
        let low : table_below eq width (half false f) label ≡ [] =
        all_table width (half false f) x label (λ a. all (false ∷ a)) ∙ none in
        let high : table_below eq width (half true f) label ≡ [] =
        all_table width (half true f) x label (λ a. all (true ∷ a)) ∙ none in
        ap (λ t. entry eq (labels eq (suc width) f) above
        ++ (behind false t ++ behind true (table_below eq width (half true f) label))) low
        ∙ ap (λ t. entry eq (labels eq (suc width) f) above ++ (behind true t)) high
        ∙ append-nil (entry eq (labels eq (suc width) f) above)
        ∙ ap (λ ls. entry eq ls above) best
