-- The blocks that are chosen of all numbers cover the runs, and no others add fewer numbers.
use Rattle.std.proofs.Common.{◌≡◌, ℕ, ◌+◌, ◌≤◌, ◌<◌, ◌^◌, false, List, [], ◌∷◌, ◌++◌, length, take, reverse, refl, ap, sym, ◌∙◌, arith}
use Rattle.std.specs.List.{AllByRecursion}
use Rattle.std.proofs.lemmas.Bool.{false≢true}
use Rattle.std.proofs.lemmas.List.{length-map, reverse-reverse}
use Rattle.shortest_tables.specs.Numbers.{bits}
use Rattle.least_covers.specs.Covers.{AreBetween, Covers, IsLeast, are_held, held, how_many, prefixes}
use Rattle.least_covers.specs.Rows.{at}
use Rattle.least_covers.specs.Runs.{has}
use Rattle.least_covers.specs.Trees.{IsBlock, IsFound, IsWritten, Tree, chosen, nodes_of, shares_of}
use Rattle.least_covers.specs.declared.blocks.Block.{Block}
use Rattle.least_covers.specs.declared.marks.Marks.{Marks}
use Rattle.least_covers.proofs.Counts.{counts_ext, counts_none}
use Rattle.least_covers.proofs.Held.{between_later, held_sizes}

-- what is claimed of the blocks that are returned
pub record IsLeastCover (most width : ℕ) (runs : List (ℕ × ℕ)) (bs : List Block) (more : ℕ) : Type 0 where
  pub shapes : AllByRecursion (IsBlock width) bs
  pub ascending : AreBetween width 0 (2 ^ width) bs
  pub within : length bs ≤ most
  pub covers : Covers width runs bs
  pub least : IsLeast width most runs bs
  pub added : held width bs ≡ how_many (2 ^ width) (has runs) + more

module _ (most width : ℕ) (runs : List (ℕ × ℕ)) where
  from_zero : how_many (2 ^ width) (λ n. has runs (0 + n)) ≡ how_many (2 ^ width) (has runs)
  from_zero = counts_ext (2 ^ width) (λ n. has runs (0 + n)) (has runs)
      (λ n less. ap (λ m. has runs m) (let z : 0 + n ≡ n = omega arith in z))

  pub none_least : (old new : Marks) (room : ℕ) (row : List ℕ) → row ≡ []
      → IsFound most runs width 0 old new room row → IsLeastCover most width runs [] 0
  none_least old new room [] e found =
      let none : (n : ℕ) → n < 2 ^ width → has runs n ≡ false =
      (λ n less. ap (λ m. has runs m) (let z : n ≡ 0 + n = omega arith in z) ∙ found.0 n less) in
      let no_run = counts_none (2 ^ width) (has runs) none in
      let no_block = counts_none (2 ^ width) (are_held width []) (λ n less. refl) in
      record {
        shapes = tt;
        ascending = omega arith;
        within = omega arith;
        covers = λ n less passes. absurd (false≢true (sym (none n less) ∙ passes));
        least = λ others few covered. omega arith;
        added = omega arith;
      }
  none_least old new room (v ∷ row) e found = absurd (cc)

  pub chosen_least : (old new last : Marks) (room : ℕ) (row : List ℕ) (after bs : List Block) (more : ℕ)
      → 0 < most → 1 ≤ length row → old.nodes.items ≡ [] → old.shares.items ≡ []
      → IsFound most runs width 0 old new room row → IsWritten width most new last [] after
      → bs ≡ reverse after → more ≡ at row most → IsLeastCover most width runs bs more
  chosen_least old new last room [] after bs more some any nodes others found written is added =
      absurd (omega arith)
  chosen_least old new last room (v ∷ row) after bs more some any nodes others found written is added =
      let t : Tree = found.1.0 in
      let made = found.1.1 width (0, omega arith) (omega arith) in
      let has_tree = found.1.2 in
      let out = written t [] [] (has_tree.0 ∙ ap (λ x. x ++ nodes_of t) nodes, has_tree.1 ∙ ap (λ x. x ++ shares_of t) others) in
      let same : bs ≡ chosen width t most =
      is ∙ ap (λ x. reverse x) out.2 ∙ reverse-reverse (chosen width t most) in
      let cover : List Block = chosen width t most in
      let zero_is = from_zero in
      let blocks = made.blocks most in
      let size = made.adds most some in
      let fewer = held_sizes width cover blocks in
      let covers : Covers width runs cover =
      (λ n less passes. made.all most some n (omega arith) (omega arith) passes) in
      let least : (others : List Block) → length others ≤ most → Covers width runs others
      → at (v ∷ row) most + how_many (2 ^ width) (λ n. has runs (0 + n)) ≤ held width others =
      (λ others' few covered. found.0.least most (omega arith) (prefixes width others')
      (let l = length-map others' (λ (b : Block). take b.length (bits width b.network)) in omega arith)
      (λ n less passes. covered n less (ap (λ m. has runs m) (let z : n ≡ 0 + n = omega arith in z) ∙ passes))) in
      let few = made.few most in
      let own' = least cover few covers in
      rw same (record {
        shapes = blocks;
        ascending = between_later width 0 (0 + 2 ^ width) (2 ^ width) cover (omega arith) (made.between most);
        within = few;
        covers = covers;
        least = λ others' fewer' covered. let h = least others' fewer' covered in omega arith;
        added = omega arith;
      })
