-- How items are shared out to the children of a node, so that each has enough, and none too many.
use Rattle.std.proofs.Common.{◌≡◌, ℕ, zero, suc, ◌+◌, ◌-◌, ◌*◌, ◌/◌, ◌^◌, ◌<◌, ◌≤◌, ap, arith}
use Rattle.std.proofs.lemmas.Nat.{le-div}
use Rattle.range_nodes.specs.declared.nodes.TheConstants.{CAPACITY, MIN_LEN}

-- of so many items each of the children may have from `low` to fewer than `high`
pub record CanBeShared (rest children low high : ℕ) : Type 0 where
  pub enough : children * low ≤ rest
  pub fits : rest + children ≤ children * high

-- one of the children has its share, and the others have theirs
pub record IsShare (rest others low high share : ℕ) : Type 0 where
  pub enough : low ≤ share
  pub fits : share < high
  pub within : share ≤ rest
  pub others_can : CanBeShared (rest - share) others low high

pub share_is : {rest : ℕ} (others : ℕ) {low high : ℕ} → CanBeShared rest (others + 1) low high
    → IsShare rest others low high (rest / (others + 1))
share_is {rest} others {low} {high} can = grind arith

-- a node with `many` items, over children that have fewer than `width` each
pub can_be_shared : (inner width many count : ℕ) → width ≡ inner * (CAPACITY + 1) → 0 < inner
    → 0 < many → many * width ≤ count → count < (many + 1) * width
    → CanBeShared (count - many) (many + 1) (MIN_LEN * inner) ((CAPACITY + 1) * inner)
can_be_shared inner width many count is some more least most =
    let each = ap (λ m. many * m) is in
    grind arith

-- how many items the node has
pub record IsCut (width count many : ℕ) : Type 0 where
  pub some : 0 < many
  pub few : many ≤ CAPACITY
  pub least : many * width ≤ count
  pub most : count < (many + 1) * width

pub cut_is : (width count : ℕ) → 0 < width → width ≤ count → count < (CAPACITY + 1) * width
    → IsCut width count (count / width)
cut_is width count some least most = grind arith

-- a child has as many items as a node needs that is not the root
pub cut_enough : {inner share : ℕ} → 0 < inner → MIN_LEN * inner ≤ share → MIN_LEN ≤ share / inner
cut_enough {inner} {share} some enough = le-div MIN_LEN share inner some enough

pub leaf_width : {width below : ℕ} → below ≡ 0 → width ≡ (CAPACITY + 1) ^ below → width ≡ 1
leaf_width none is = grind arith

pub leaf_cut : {width below : ℕ} (count : ℕ) → below ≡ 0 → width ≡ (CAPACITY + 1) ^ below
    → count / width ≡ count
leaf_cut count none is = grind arith

pub inner_is : (width below : ℕ) → 0 < below → width ≡ (CAPACITY + 1) ^ below
    → (width / (CAPACITY + 1) ≡ (CAPACITY + 1) ^ (below - 1))
    × (width ≡ width / (CAPACITY + 1) * (CAPACITY + 1))
inner_is width zero some is = absurd (omega arith)
inner_is width (suc d) some is = grind arith

-- a node that is no leaf, over children of which each has fewer than 12 times `inner` items
pub record IsBranch (width below count inner many : ℕ) : Type 0 where
  pub inner_is : inner ≡ (CAPACITY + 1) ^ (below - 1)
  pub some : 0 < inner
  pub cut : IsCut width count many
  pub within : many ≤ count
  pub can : CanBeShared (count - many) (many + 1) (MIN_LEN * inner) ((CAPACITY + 1) * inner)

pub branch_is : {width below count : ℕ} → 0 < below → width ≡ (CAPACITY + 1) ^ below
    → width ≤ count → count < (CAPACITY + 1) * width
    → IsBranch width below count (width / (CAPACITY + 1)) (count / width)
branch_is some is least most = grind (arith, inner_is, cut_is, can_be_shared)

-- the share of the first child
pub first_share : {width below count inner many : ℕ} → IsBranch width below count inner many →
    IsShare (count - many) many (MIN_LEN * inner) ((CAPACITY + 1) * inner) ((count - many) /
    (many + 1))
first_share {width} {below} {count} {inner} {many} branch = share_is many branch.can

-- and of the one after the item at an index
pub next_share : {rest many : ℕ} (index : ℕ) {low high : ℕ} → index < many
    → CanBeShared rest (many - index) low high
    → IsShare rest (many - (index + 1)) low high (rest / (many - index))
next_share {rest} {many} index {low} {high} more can =
    let level : many - index ≡ many - (index + 1) + 1 = omega arith in
    rw level (share_is (many - (index + 1)) (rw level at can))
