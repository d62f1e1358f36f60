-- The values of entries are below the bound.
use Rattle.std.proofs.Common.{ℕ, zero, suc, ◌<◌, Bool, true, false, if◌then◌else◌, nat_eq, [], ◌∷◌, ◌++◌, Option, Some, None}
use Rattle.std.specs.List.{AllByRecursion}
use Rattle.shortest_tables.specs.Tables.{Bits, Table}
use Rattle.shortest_tables.specs.Labels.{Labels, Unbound, Among, behind, choose, entry, half, has, labels, leaf, table_below}
use Rattle.shortest_tables.specs.Numbers.{IsNumbered}
use Rattle.shortest_tables.specs.Entries.{placed}
use Rattle.shortest_tables.proofs.Gathers.{AreNumbered, labels_numbered, leaf_numbered}

module _ (count : ℕ) where
  abbrev HasNumbers : Table ℕ → Type 0
  HasNumbers t = AllByRecursion (λ e. e.1 < count) t

  append_numbered : (t s : Table ℕ) → HasNumbers t → HasNumbers s → HasNumbers (t ++ s)
  append_numbered [] s h k = k
  append_numbered (e ∷ t) s h k = (h.0, append_numbered t s h.1 k)

  behind_numbered : (b : Bool) (t : Table ℕ) → HasNumbers t → HasNumbers (behind b t)
  behind_numbered b [] h = tt
  behind_numbered b (e ∷ t) h = (h.0, behind_numbered b t h.1)

  entry_numbered : (ls : Labels ℕ) (above : Option ℕ) → AreNumbered count ls
      → HasNumbers (entry nat_eq ls above)
  entry_numbered Unbound above h = tt
  entry_numbered (Among v vs) None h = (h.0, tt)
  entry_numbered (Among v vs) (Some u) h =
      elim (has nat_eq u (v ∷ vs)) as (λ b. HasNumbers (if b then [] else ([], v) ∷ []))
      [ true ↦ tt | false ↦ (h.0, tt) ]

  pub table_numbered : (width : ℕ) (f : Bits → Option ℕ) (above : Option ℕ)
      → ((a : Bits) → IsNumbered count (f a)) → HasNumbers (table_below nat_eq width f above)
  table_numbered zero f above h =
      entry_numbered (leaf nat_eq (f [])) above (leaf_numbered count (f []) (h []))
  table_numbered (suc width) f above h =
      let ls : Labels ℕ = labels nat_eq (suc width) f in
      let label : Option ℕ = choose nat_eq ls above in
      let low : Table ℕ = table_below nat_eq width (half false f) label in
      let high : Table ℕ = table_below nat_eq width (half true f) label in
      append_numbered (entry nat_eq ls above) (behind false low ++ behind true high)
      (entry_numbered ls above (labels_numbered count (suc width) f h))
      (append_numbered (behind false low) (behind true high)
      (behind_numbered false low (table_numbered width (half false f) label (λ a. h (false ∷ a))))
      (behind_numbered true high (table_numbered width (half true f) label (λ a. h (true ∷ a)))))

  pub placed_numbered : (width free from : ℕ) (t : Table ℕ) → HasNumbers t
      → AllByRecursion (λ e. e.value < count) (placed width free from t)
  placed_numbered width free from [] h = tt
  placed_numbered width free from (e ∷ t) h = (h.0, placed_numbered width free from t h.1)
