-- The entries of a block, added after those of its halves.
use Rattle.std.proofs.Common.{◌≡◌, ℕ, zero, suc, ◌+◌, ◌≤◌, ◌^◌, ◌⊎◌, true, false, nat_eq, List, [], ◌∷◌, ◌++◌, append_assoc, reverse, length, Option, Some, None, inl, inr, refl, ap, sym, ◌∙◌, arith}
use Rattle.std.proofs.lemmas.Bool.{false≢true}
use Rattle.std.proofs.lemmas.Bool.Decides.{Decides-eqb}
use Rattle.std.proofs.lemmas.List.{reverse-append}
use Rattle.shortest_tables.specs.Tables.{Table}
use Rattle.shortest_tables.specs.Entries.{own, placed}
use Rattle.shortest_tables.specs.Labels.{Labels, choose, entry, half, has, labels, table_below}
use Rattle.shortest_tables.specs.Trees.{IsPopped, IsWritten, Whole, Divided, labels_of, nodes_of}
use Rattle.shortest_tables.specs.declared.entries.Entry.{Entry}
use Rattle.shortest_tables.specs.declared.marks.Marks.{Marks}
use Rattle.shortest_tables.specs.declared.marks.Node.{Node}
use Rattle.shortest_tables.specs.declared.marks.Taken.{Taken}
use Rattle.shortest_tables.proofs.Blocks.{placed_table, all_table}

reverse_own : (width free network : ℕ) (x : Option ℕ)
    → reverse (placed width free network (own x)) ≡ placed width free network (own x)
reverse_own width free network None = refl
reverse_own width free network (Some v) = refl

-- where a block is not divided, its own entry is all
pub whole_written : (width free network : ℕ) (above : Option ℕ) (taken : Taken) (old new : Marks)
    (before after : List (Entry ℕ)) → IsPopped above old new taken
    → (taken.is_divided ≡ false) ⊎ (free ≡ 0)
    → after ≡ before ++ placed width free network (own taken.own)
    → IsWritten width free network above old new before after
whole_written width free network above taken old new before after popped side is f (Whole best) nodes
    others tree has =
    let node : Node = record { is_divided = false; labels = length best } in
    let out = popped nodes others best false has.0 has.1 in
    let same : own taken.own ≡ table_below nat_eq free f above =
    out.3 ∙ ap (λ ls. entry nat_eq ls above) tree.2
    ∙ sym (all_table nat_eq Decides-eqb free f tree.0 above tree.1) in
    let turned : after ≡ before ++ reverse (placed width free network (own taken.own)) =
    is ∙ ap (λ x. before ++ x) (sym (reverse_own width free network taken.own)) in
    (out.0, out.1, turned ∙ ap (λ t. before ++ reverse (placed width free network t)) same)
whole_written width zero network above taken old new before after popped side is f
    (Divided best low high) nodes others tree has = absurd tree
whole_written width (suc less) network above taken old new before after popped (inr none) is f
    (Divided best low high) nodes others tree has = absurd (omega (arith, none))
whole_written width (suc less) network above taken old new before after popped (inl not_divided) is f
    (Divided best low high) nodes others tree has =
    let node : Node = record { is_divided = true; labels = length best } in
    let out = popped (nodes ++ (nodes_of low ++ nodes_of high)) (others ++ (labels_of low ++ labels_of high)) best true
    (has.0 ∙ sym (append_assoc nodes (nodes_of low ++ nodes_of high) (node ∷ [])))
    (has.1 ∙ sym (append_assoc others (labels_of low ++ labels_of high) best)) in
    absurd (false≢true (sym not_divided ∙ out.2))

divided_less : (width less network : ℕ) (above : Option ℕ) (taken : Taken)
    (old one two new : Marks) (before high_after low_after after : List (Entry ℕ)) → suc less ≤ width
    → IsPopped above old one taken → taken.is_divided ≡ true
    → IsWritten width less (network + 2 ^ less) taken.label one two before high_after
    → IsWritten width less network taken.label two new high_after low_after
    → after ≡ low_after ++ placed width (suc less) network (own taken.own)
    → IsWritten width (suc less) network above old new before after
divided_less width less network above taken old one two new before high_after low_after after inside
    popped is_divided high_written low_written is f (Whole best) nodes others tree has =
    let out = popped nodes others best false has.0 has.1 in
    absurd (false≢true (sym out.2 ∙ is_divided))
divided_less width less network above taken old one two new before high_after low_after after inside
    popped is_divided high_written low_written is f (Divided best low high) nodes others tree has =
    let node : Node = record { is_divided = true; labels = length best } in
    let ls : Labels ℕ = labels nat_eq (suc less) f in
    let out = popped (nodes ++ (nodes_of low ++ nodes_of high)) (others ++ (labels_of low ++ labels_of high)) best true
    (has.0 ∙ sym (append_assoc nodes (nodes_of low ++ nodes_of high) (node ∷ [])))
    (has.1 ∙ sym (append_assoc others (labels_of low ++ labels_of high) best)) in
    let high_out = high_written (half true f) high (nodes ++ nodes_of low) (others ++ labels_of low)
    tree.2 (
      out.0 ∙ sym (append_assoc nodes (nodes_of low) (nodes_of high)),
      out.1 ∙ sym (append_assoc others (labels_of low) (labels_of high)),
    ) in
    let low_out = low_written (half false f) low nodes others tree.1 (high_out.0, high_out.1) in
    let own_is : own taken.own ≡ entry nat_eq ls above = out.3 ∙ ap (λ x. entry nat_eq x above) tree.0 in
    let label_is : taken.label ≡ choose nat_eq ls above = out.4 ∙ ap (λ x. choose nat_eq x above) tree.0 in
    let top : Table ℕ → List (Entry ℕ) = λ t. placed width (suc less) network t in
    let highs : Option ℕ → List (Entry ℕ) = λ l. placed width less (network + 2 ^ less) (table_below nat_eq less (half true f) l) in
    let lows : Option ℕ → List (Entry ℕ) = λ l. placed width less network (table_below nat_eq less (half false f) l) in
    let order : reverse (top (table_below nat_eq (suc less) f above))
    ≡ reverse (highs (choose nat_eq ls above)) ++ (reverse (lows (choose nat_eq ls above)) ++ reverse (top (entry nat_eq ls above))) =
    ap (λ x. reverse x) (placed_table nat_eq f width less network above inside)
    ∙ reverse-append (top (entry nat_eq ls above) ++ lows (choose nat_eq ls above)) (highs (choose nat_eq ls above))
    ∙ ap (λ x. reverse (highs (choose nat_eq ls above)) ++ x) (reverse-append (top (entry nat_eq ls above)) (lows (choose nat_eq ls above))) in
    let own_turned : placed width (suc less) network (own taken.own) ≡ reverse (top (entry nat_eq ls above)) =
    sym (reverse_own width (suc less) network taken.own) ∙ ap (λ t. reverse (top t)) own_is in
    let made : after ≡ before ++ (reverse (highs taken.label) ++ (reverse (lows taken.label) ++ reverse (top (entry nat_eq ls above)))) =
    is ∙ ap (λ x. low_after ++ x) own_turned
    ∙ ap (λ x. x ++ reverse (top (entry nat_eq ls above))) (low_out.2
    ∙ ap (λ x. x ++ reverse (lows taken.label)) high_out.2)
    ∙ append_assoc (before ++ reverse (highs taken.label)) (reverse (lows taken.label)) (reverse (top (entry nat_eq ls above)))
    ∙ append_assoc before (reverse (highs taken.label)) (reverse (lows taken.label) ++ reverse (top (entry nat_eq ls above))) in (
      low_out.0,
      low_out.1,
      made ∙ ap (λ l. before ++ (reverse (highs l) ++ (reverse (lows l) ++ reverse (top (entry nat_eq ls above))))) label_is
          ∙ ap (λ x. before ++ x) (sym order),
    )

-- where it is divided, the entries of its halves come first
pub divided_written : (width free less network middle : ℕ) (above : Option ℕ) (taken : Taken)
    (old one two new : Marks) (before high_after low_after after : List (Entry ℕ)) → free ≡ suc less
    → middle ≡ network + 2 ^ less → free ≤ width → IsPopped above old one taken
    → taken.is_divided ≡ true
    → IsWritten width less middle taken.label one two before high_after
    → IsWritten width less network taken.label two new high_after low_after
    → after ≡ low_after ++ placed width free network (own taken.own)
    → IsWritten width free network above old new before after
divided_written width free less network middle above taken old one two new before high_after low_after
    after e m inside popped is_divided high low is =
    let inside_too : suc less ≤ width = omega arith in
    let high_too : IsWritten width less (network + 2 ^ less) taken.label one two before high_after = rw m at high in
    let is_too : after ≡ low_after ++ placed width (suc less) network (own taken.own) = rw e at is in
    rw e (divided_less width less network above taken old one two new before high_after low_after after
    inside_too popped is_divided high_too low is_too)
