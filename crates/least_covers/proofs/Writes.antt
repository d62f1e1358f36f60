-- The chosen blocks of a tree, added after those of its halves.
use Rattle.std.proofs.Common.{◌≡◌, ℕ, Bool, true, false, List, [], ◌∷◌, ◌++◌, append_assoc, reverse, length, refl, ap, sym, ◌∙◌}
use Rattle.std.proofs.lemmas.Bool.{false≢true}
use Rattle.std.proofs.lemmas.List.{reverse-append}
use Rattle.least_covers.specs.Trees.{IsPopped, IsWritten, Whole, Divided, chosen, high_of, is_own, low_of, nodes_of, own, shares_of}
use Rattle.least_covers.specs.declared.blocks.Block.{Block}
use Rattle.least_covers.specs.declared.marks.Marks.{Marks}
use Rattle.least_covers.specs.declared.marks.Node.{Node}
use Rattle.least_covers.specs.declared.marks.Taken.{Taken}

reverse_own : (width : ℕ) (b : Bool) (network free : ℕ)
    → reverse (own width b network free) ≡ own width b network free
reverse_own width true network free = refl
reverse_own width false network free = refl

module _ (width k : ℕ) (taken : Taken) where
  abbrev taken_own : List Block
  taken_own = own width taken.is_own taken.network taken.free

  own_is : (b : Bool) (network free : ℕ) → taken.network ≡ network → taken.free ≡ free
      → taken.is_own ≡ b → taken_own ≡ reverse (own width b network free)
  own_is b network free n f e =
      ap (λ x. own width taken.is_own x taken.free) n ∙ ap (λ x. own width taken.is_own network x) f
      ∙ ap (λ x. own width x network free) e ∙ sym (reverse_own width b network free)

  -- where a block is not divided, its own is all
  pub whole_written : (old new : Marks) (before after : List Block) → IsPopped k old new taken
      → taken.is_divided ≡ false → after ≡ before ++ taken_own
      → IsWritten width k old new before after
  whole_written old new before after popped side is (Whole network free) nodes others has =
      let out = popped nodes others [] network free false has.0 has.1 in
      (out.0, out.1, is ∙ ap (λ x. before ++ x) (own_is (is_own [] k) network free out.2 out.3 out.5))
  whole_written old new before after popped side is (Divided network free shares low high) nodes others
      has =
      let node : Node = record { network = network; free = free; is_divided = true; shares = length shares } in
      let out = popped (nodes ++ (nodes_of low ++ nodes_of high)) (others ++ (shares_of low ++ shares_of high)) shares network free true
      (has.0 ∙ sym (append_assoc nodes (nodes_of low ++ nodes_of high) (node ∷ [])))
      (has.1 ∙ sym (append_assoc others (shares_of low ++ shares_of high) shares)) in
      absurd (false≢true (sym side ∙ out.4))

  -- where it is divided, the blocks of its halves come first
  pub divided_written : (old one two new : Marks) (before high_after low_after after : List Block)
      → IsPopped k old one taken → taken.is_divided ≡ true
      → IsWritten width taken.high one two before high_after
      → IsWritten width taken.low two new high_after low_after → after ≡ low_after ++ taken_own
      → IsWritten width k old new before after
  divided_written old one two new before high_after low_after after popped side high_written low_written
      is (Whole network free) nodes others has =
      let out = popped nodes others [] network free false has.0 has.1 in
      absurd (false≢true (sym out.4 ∙ side))
  divided_written old one two new before high_after low_after after popped side high_written low_written
      is (Divided network free shares low high) nodes others has =
      let node : Node = record { network = network; free = free; is_divided = true; shares = length shares } in
      let out = popped (nodes ++ (nodes_of low ++ nodes_of high)) (others ++ (shares_of low ++ shares_of high)) shares network free true
      (has.0 ∙ sym (append_assoc nodes (nodes_of low ++ nodes_of high) (node ∷ [])))
      (has.1 ∙ sym (append_assoc others (shares_of low ++ shares_of high) shares)) in
      let high_out = high_written high (nodes ++ nodes_of low) (others ++ shares_of low) (
        out.0 ∙ sym (append_assoc nodes (nodes_of low) (nodes_of high)),
        out.1 ∙ sym (append_assoc others (shares_of low) (shares_of high)),
      ) in
      let low_out = low_written low nodes others (high_out.0, high_out.1) in
      let mine : List Block = own width (is_own shares k) network free in
      let lows : ℕ → List Block = λ s. chosen width low s in
      let highs : ℕ → List Block = λ s. chosen width high s in
      let l : ℕ = low_of shares k in
      let h : ℕ = high_of shares k in
      let made : after ≡ ((before ++ reverse (highs taken.high)) ++ reverse (lows taken.low)) ++ taken_own =
      is ∙ ap (λ x. x ++ taken_own) (low_out.2 ∙ ap (λ x. x ++ reverse (lows taken.low)) high_out.2) in
      let same : after ≡ ((before ++ reverse (highs h)) ++ reverse (lows l)) ++ reverse mine =
      made ∙ ap (λ s. ((before ++ reverse (highs s)) ++ reverse (lows taken.low)) ++ taken_own) out.7
      ∙ ap (λ s. ((before ++ reverse (highs h)) ++ reverse (lows s)) ++ taken_own) out.6
      ∙ ap (λ x. ((before ++ reverse (highs h)) ++ reverse (lows l)) ++ x)
      (own_is (is_own shares k) network free out.2 out.3 out.5) in
      let turned : reverse (mine ++ (lows l ++ highs h)) ≡ (reverse (highs h) ++ reverse (lows l)) ++ reverse mine =
      reverse-append mine (lows l ++ highs h) ∙ ap (λ x. x ++ reverse mine) (reverse-append (lows l) (highs h)) in (
        low_out.0,
        low_out.1,
        same ∙ ap (λ x. x ++ reverse mine) (append_assoc before (reverse (highs h)) (reverse (lows l)))
            ∙ append_assoc before (reverse (highs h) ++ reverse (lows l)) (reverse mine)
            ∙ ap (λ x. before ++ x) (sym turned),
      )
