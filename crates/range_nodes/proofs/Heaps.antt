-- Changes of several nodes, in another order.
use Rattle.std.specs.Prelude.{is_some, cond}
use Rattle.std.proofs.Common.{◌≡◌, ◌≢◌, ◌<◌, ℕ, List, Option, Some, None, length, refl, sym, inl, inr, arith}
use Rattle.std.proofs.Math.ListN.{set}
use Rattle.std.proofs.lemmas.Bool.{both_ways, cases_lt}
use Rattle.std.proofs.lemmas.List.{get_or_past, get_or-set_same, get_or-set_other}
use Rattle.std.proofs.lemmas.List.Sums.{sum_by-set}
use Rattle.range_nodes.specs.Heap.{Heap, Content, HasNode, Writes, Removes, node_of, node_items, node_children, with_item}
use Rattle.range_nodes.proofs.Slots.{slot_count, slot_read}

module _ {T : Type 0} where
  abbrev pub with_slot : Heap T → ℕ → Option (Content T) → Heap T
  with_slot s n slot = record s { slots = set s.slots n slot }

  pub writes_slot : (s : Heap T) (n : ℕ) (node : Content T) → HasNode s n
      → Writes s (with_slot s n (Some node)) n node.items node.children
  writes_slot s n node present = grind (arith, slot_read, get_or-set_other, slot_count)

  removes_slot : (s : Heap T) (n : ℕ) → HasNode s n → Removes s (with_slot s n None) n
  removes_slot s n present = grind (arith, slot_read, get_or-set_other, slot_count)

  module _ (s t u : Heap T) (n m : ℕ) (xs : List T) (ks : List ℕ) (apart : m ≢ n) where
    -- two writes of different nodes
    pub record WritesFirst (ys : List T) (ls : List ℕ) : Type 0 where
      pub between : Heap T
      pub first : Writes s between m ys ls
      pub second : Writes between u n xs ks

    pub write_first : {ys : List T} {ls : List ℕ} → Writes s t n xs ks → Writes t u m ys ls
        → WritesFirst ys ls
    write_first {ys} {ls} one two =
        let present : HasNode s m = rw (one.others m apart) at two.was in
        grind (arith, writes_slot s m (record { items = ys; children = ls }) present)

    pub record RemovesFirst : Type 0 where
      pub between : Heap T
      pub first : Removes s between m
      pub second : Writes between u n xs ks

    pub remove_first : Writes s t n xs ks → Removes t u m → RemovesFirst
    remove_first one two = grind (arith, removes_slot)

    pub record RemovesLast : Type 0 where
      pub between : Heap T
      pub first : Writes s between n xs ks
      pub second : Removes between u m

    pub remove_last : Removes s t m → Writes t u n xs ks → RemovesLast
    remove_last one two =
        let apart' = λ (e : n ≡ m). apart (sym e) in
        let present : HasNode s n = rw (one.others n apart') at two.was in
        grind (arith, writes_slot s n (record { items = xs; children = ks }) present)

-- a heap in which an item of a node was written
module _ {T : Type 0} (s : Heap T) (m i : ℕ) (x : T) (present : HasNode s m) where
  stored : m < length s.slots
  stored =
      elim (cases_lt m (length s.slots)) [
        | inl less ↦ less
        | inr past ↦ let none : node_of s m ≡ None =
            get_or_past s.slots m None past in absurd (both_ways _ (rw none refl) present)
      ]

  pub item_written : Writes s (with_item s m i x) m (set (node_items s m) i x) (node_children s m)
  item_written =
      let now : node_of (with_item s m i x) m
      ≡ Some (record {
        items = set (node_items s m) i x;
        children = node_children s m;
      }) = get_or-set_same s.slots m _ None stored in
      let one : ◌≡◌ {A = ℕ} (cond (is_some (node_of s m)) 1 0) 1 = rw present refl in
      record {
        was = present;
        present = rw now refl;
        items_are = rw now refl;
        children_are = rw now refl;
        others = λ k other. get_or-set_other s.slots m k _ None other;
        len =
            omega (
              arith,
              sum_by-set (λ o. cond (is_some o) 1 0) s.slots m
                  (Some (record {
                    items = set (node_items s m) i x;
                    children = node_children s m;
                  })) None stored,
              one,
            );
        capacity = refl;
      }
