-- Clones of the gaps of a list, put one after the other.
use Rattle.std.proofs.Common.{◌≡◌, ℕ, ◌+◌, ◌≤◌, refl, ap, ◌↔◌, arith, append_assoc, true, List, [], ◌∷◌, ◌++◌, length}
use Rattle.std.proofs.lemmas.List.{append-nil}
use Rattle.std.proofs.lemmas.List.Elements.{All-from_recursion}
use Rattle.std.specs.Cmp.{IsEquivalence, tied_back}
use Rattle.std.specs.List.{AllZip}
use Rattle.std.specs.declared.cmp.Ordering.TheVariants.{Equal}
use Rattle.range_keys.specs.Order.{KeyOrder, IsLawful}
use Rattle.range_algebra.proofs.Lists.{every_more}
use Rattle.range_algebra.specs.Clones.{IsRangeClone, range_clone}
use Rattle.range_algebra.specs.Range.{IsKeyRange}
use Rattle.range_algebra.specs.RangeOrder.{range_cmp, range_total}
use Rattle.range_algebra.specs.declared.any.AnyRange.{AnyRange}
use Rattle.range_algebra.proofs.Canonical.{equal_is_same}
use Rattle.range_store.specs.declared.storage.Item.{Item}
use Rattle.range_reads.specs.ListOrder.{IsCopyOf}
use Rattle.range_reads.specs.FreeRanges.{item_ranges, IsHeldOnce}
use Rattle.range_map.proofs.CloneLists.{copy_stored}
use Rattle.range_map.proofs.HeldOnce.{one_of_two}
use Rattle.range_set_extend.specs.KeySets.{HoldsKey, HoldsTheOthers, IsStoredSet, SomeHolds}
use Rattle.range_sets.proofs.Complementing.{set_items, front_stored}

pub all_equal : IsEquivalence {K = Unit {0}} (λ _ _. true)
all_equal = record { refl = λ x. refl; symm = λ x y. refl; congr = λ x y z e. refl }

zip_more : {A B : Type 0} (R : A → B → Type 0) (xs : List A) (ys : List B) (x : A) (y : B)
    → AllZip R xs ys → R x y → AllZip R (xs ++ x ∷ []) (ys ++ y ∷ [])
zip_more R [] [] x y zip r = (r, tt)
zip_more R (a ∷ xs) (b ∷ ys) x y zip r = (zip.0, zip_more R xs ys x y zip.1 r)
zip_more R xs ys x y zip r = absurd zip

module _ {K : Type 0} (order : KeyOrder K) where
  abbrev Items : Type 0
  Items = List (Item (AnyRange K) (Unit {0}))

  abbrev SameRange : Item (AnyRange K) (Unit {0}) → AnyRange K → Type 0
  SameRange i g = range_cmp order i.key g ≡ Equal

  -- the items equal the gaps that came before the rest, and there is capacity for the rest
  pub record IsFilled (gaps rest : List (AnyRange K)) (items : Items) (room : ℕ) : Type 0 where
    pub done : List (AnyRange K)
    pub split : done ++ rest ≡ gaps
    pub copied : AllZip SameRange items done
    pub form : IsStoredSet order items
    pub space : length rest ≤ room

  pub filling_begins : (gaps : List (AnyRange K)) (items : Items) (room : ℕ) → items ≡ []
      → length gaps ≤ room → IsFilled gaps gaps items room
  filling_begins gaps items room none space = grind arith

  as_copy : (items : Items) (ranges : List (AnyRange K)) → AllZip SameRange items ranges
      → IsCopyOf order (λ _ _. true) items (set_items ranges)
  as_copy [] [] zip = tt
  as_copy (i ∷ items) (g ∷ ranges) zip = ((zip.0, refl), as_copy items ranges zip.1)
  as_copy items ranges zip = absurd zip

  module _ (lawful : IsLawful order) where
    -- a clone of a range equals it
    pub clone_same : (is_clone : K → K → Type 0)
        → ((x y : K) → is_clone x y → order.cmp x y ≡ Equal) → (g r : AnyRange K)
        → IsRangeClone is_clone g r → range_cmp order r g ≡ Equal
    clone_same is_clone equal g r h =
        tied_back (range_total order lawful) g r (range_clone order lawful is_clone equal g r h)

    -- with the clone of the next gap the items are in the form of a set
    pub next_gap_fits : (gaps rest others : List (AnyRange K)) (items : Items) (room : ℕ)
        (g r : AnyRange K) → IsStoredSet order (set_items gaps) → IsFilled gaps rest items room
        → rest ≡ g ∷ others → IsKeyRange order r → range_cmp order r g ≡ Equal
        → IsStoredSet order (items ++ record { key = r; value = tt } ∷ [])
    next_gap_fits gaps rest others items room g r form filled next known same =
        let more = items ++ record { key = r; value = tt } ∷ [] in
        let front = filled.done ++ g ∷ [] in
        let all : front ++ others ≡ gaps =
        rw (append_assoc filled.done (g ∷ []) others, ← next) filled.split in
        let zip =
        zip_more SameRange items filled.done
        (record { key = r; value = tt }) g filled.copied same in
        copy_stored lawful all_equal more (set_items front)
        (as_copy more front zip)
        (All-from_recursion (λ i. IsKeyRange order i.key) more
        (grind (arith, every_more)))
        (grind (arith, front_stored))

    pub filled_more : (gaps rest others : List (AnyRange K)) (items next : Items) (room left : ℕ)
        (g r : AnyRange K) → IsStoredSet order (set_items gaps) → IsFilled gaps rest items room
        → rest ≡ g ∷ others → IsKeyRange order r → range_cmp order r g ≡ Equal
        → next ≡ items ++ record { key = r; value = tt } ∷ [] → room ≡ left + 1
        → IsFilled gaps others next left
    filled_more gaps rest others items next room left g r form filled came known same put room_is =
        let more = next_gap_fits gaps rest others items room g r form filled came known same in
        let shorter = ap length came in
        rw put (record {
          done = filled.done ++ g ∷ [];
          split = rw (append_assoc filled.done (g ∷ []) others, ← came) filled.split;
          copied = grind (arith, zip_more);
          form = more;
          space = omega (arith, shorter, filled.space, room_is);
        })

    same_keys : (others : Items) (gaps : List (AnyRange K)) (k : K) → order.is_key k
        → AllZip SameRange others gaps → HoldsKey order others k ↔ SomeHolds order gaps k
    same_keys [] [] k key zip = (λ h. h, λ h. h)
    same_keys (i ∷ others) (g ∷ gaps) k key zip =
        grind (arith, equal_is_same, same_keys others gaps k key zip.1)
    same_keys others gaps k key zip = absurd zip

  pub all_copied : (gaps rest : List (AnyRange K)) (items : Items) (room : ℕ)
      → IsFilled gaps rest items room → rest ≡ [] → AllZip SameRange items gaps
  all_copied gaps rest items room filled ended = grind (arith, append-nil)

  pub others_held : (lawful : IsLawful order) (items others : Items) (gaps : List (AnyRange K))
      → AllZip SameRange others gaps
      → ((k : K) → order.is_key k → IsHeldOnce order (item_ranges items ++ gaps) k)
      → HoldsTheOthers order items others
  others_held lawful items others gaps zip once k key = grind (arith, one_of_two, same_keys)
