-- Blocks of numbers and the prefixes of addresses that they are.
use Rattle.std.proofs.Common.{◌≡◌, ℕ, ◌+◌, ◌-◌, ◌≤◌, ◌<◌, ◌^◌, ◌↔◌, Bool, true, false, ◌||◌, ◌⊎◌, zero, suc, List, [], ◌∷◌, ◌++◌, length, get_or, map, take, inl, inr, refl, ap, arith}
use Rattle.std.proofs.Math.Pow.{pow_pos}
use Rattle.std.specs.List.{AllByRecursion}
use Rattle.std.proofs.lemmas.List.{take_more}
use Rattle.btree_range_map.specs.AnyRange.{AnyRange}
use Rattle.btree_range_map.specs.Intervals.{Any}
use Rattle.btree_range_map.specs.Item.{Item}
use Rattle.btree_range_map.specs.KeySets.{HoldsAlso}
use Rattle.btree_range_map.specs.Order.{KeyOrder}
use Rattle.btree_range_map.specs.Range.{Holds}
use Rattle.address_keys.specs.Families.{IsFamily}
use Rattle.address_prefixes.specs.Prefixes.{HasAddress, IsPrefix, SomeHasAddress}
use Rattle.address_prefixes.specs.Tiles.{prefix_at}
use Rattle.address_prefixes.specs.declared.prefix.Prefix.{Prefix}
use Rattle.address_sets.proofs.Sets.{holds_is}
use Rattle.shortest_tables.specs.Numbers.{bits}
use Rattle.shortest_tables.specs.Tables.{holds}
use Rattle.address_covers.specs.Blocks.{HoldsBlocks, block_range}
use Rattle.least_covers.specs.Covers.{are_held}
use Rattle.least_covers.specs.Trees.{IsBlock}
use Rattle.least_covers.specs.declared.blocks.Block.{Block}
use Rattle.least_covers.proofs.Held.{inside, outside}

or_right : (a b : Bool) → b ≡ true → (a || b) ≡ true
or_right true b h = refl
or_right false b h = h

module _ {A : Type 0} {order : KeyOrder A} {number : A → ℕ} {at : ℕ → A} {width : ℕ}
    (family : IsFamily order number at width) where
  -- the block of a prefix, and the prefix of a block
  abbrev pub block_of : Prefix A → Block
  block_of p = record { network = number p.network; length = p.length }

  abbrev pub prefix_of : Block → Prefix A
  prefix_of b = prefix_at at width b.network (width - b.length)

  pub blocks_are : (ps : List (Prefix A)) → AllByRecursion (IsPrefix number width) ps
      → AllByRecursion (IsBlock width) (map block_of ps)
  blocks_are [] h = tt
  blocks_are (p ∷ ps) h =
      let ends = h.0.ends in
      let fits = h.0.fits in
      ((h.0.short, h.0.aligned, omega (arith, ends, fits)), blocks_are ps h.1)

  prefix_is : (b : Block) → IsBlock width b → IsPrefix number width (prefix_of b)
  prefix_is b block =
      let short = block.0 in
      let fits = block.2 in
      let size = pow_pos (width - b.length) in
      let n : ℕ = b.network in
      let past : ℕ = n + 2 ^ (width - b.length) in
      let first : number (at n) ≡ n = family.at_number n (omega (arith, fits, size)) in
      let last : number (at (past - 1)) ≡ past - 1 = family.at_number (past - 1) (omega (arith, fits, size)) in
      let free : width - (width - (width - b.length)) ≡ width - b.length = omega (arith, short) in
      record {
        short = omega arith;
        aligned = rw (free, first) block.1;
        ends = rw (free, first, last) (omega (arith, size));
        fits = rw last (omega (arith, fits, size));
      }

  pub prefixes_are : (bs : List Block) → AllByRecursion (IsBlock width) bs
      → AllByRecursion (IsPrefix number width) (map prefix_of bs)
  prefixes_are [] h = tt
  prefixes_are (b ∷ bs) h = (prefix_is b h.0, prefixes_are bs h.1)

  -- a number lies in a block
  abbrev IsInBlock : ℕ → Block → Type 0
  IsInBlock n b = (b.network ≤ n) × (n < b.network + 2 ^ (width - b.length))

  held_in : (bs : List Block) → AllByRecursion (IsBlock width) bs → (n : ℕ) → n < 2 ^ width
      → are_held width bs n ≡ true → Any (IsInBlock n) bs
  held_in [] h n small held = absurd (cc)
  held_in (b ∷ bs) h n small held =
      let one : Bool = holds (take b.length (bits width b.network)) (bits width n) in
      let P : Bool → Type 0 = λ t. one ≡ t → (t || are_held width bs n) ≡ true → Any (IsInBlock n) (b ∷ bs) in
      let go : P one = elim one as P [
        | true ↦ λ is _. inl (outside width b.length b.network n h.0.0 h.0.1 h.0.2 small is)
        | false ↦ λ is later. inr (held_in bs h.1 n small later)
      ] in go refl held

  in_held : (bs : List Block) → AllByRecursion (IsBlock width) bs → (n : ℕ) → Any (IsInBlock n) bs
      → are_held width bs n ≡ true
  in_held [] h n none = absurd none
  in_held (b ∷ bs) h n (inl here) =
      let is = inside width b.length b.network n h.0.0 h.0.1 h.0.2 here.0 here.1 in rw is refl
  in_held (b ∷ bs) h n (inr later) =
      or_right (holds (take b.length (bits width b.network)) (bits width n)) (are_held width bs n) (in_held bs h.1 n later)

  prefix_in : (ps : List (Prefix A)) → AllByRecursion (IsPrefix number width) ps → (a : A)
      → SomeHasAddress number ps a ↔ Any (IsInBlock (number a)) (map block_of ps)
  prefix_in [] h a = (λ none. none, λ none. none)
  prefix_in (p ∷ ps) h a =
      let ends = h.0.ends in
      let rest = prefix_in ps h.1 a in (
        λ some. elim some [
          | inl here ↦ let last = here.1 in inl (here.0, omega (arith, ends, last))
          | inr later ↦ inr (rest.0 later)
        ],
        λ some. elim some [
          | inl here ↦ let past = here.1 in inl (here.0, omega (arith, ends, past))
          | inr later ↦ inr (rest.1 later)
        ],
      )

  -- prefixes have an address just where their blocks hold its number
  pub prefixes_hold : (ps : List (Prefix A)) → AllByRecursion (IsPrefix number width) ps → (a : A)
      → number a < 2 ^ width
      → SomeHasAddress number ps a ↔ (are_held width (map block_of ps) (number a) ≡ true)
  prefixes_hold ps h a small =
      let is = prefix_in ps h a in (
        λ some. in_held (map block_of ps) (blocks_are ps h) (number a) (is.0 some),
        λ held. is.1 (held_in (map block_of ps) (blocks_are ps h) (number a) small held),
      )

  range_is : (b : Block) → IsBlock width b → (a : A) → order.is_key a
      → Holds order (block_range at width b) a ↔ IsInBlock (number a) b
  range_is b block a key =
      let fits = block.2 in
      let size = pow_pos (width - b.length) in
      let n : ℕ = b.network in
      let past : ℕ = n + (2 ^ (width - b.length) - 1) in
      let first : number (at n) ≡ n = family.at_number n (omega (arith, fits, size)) in
      let last : number (at past) ≡ past = family.at_number past (omega (arith, fits, size)) in
      let is = holds_is family (block_range at width b) a key in (
        λ held. let h = is.0 held in let l = h.0 in let r = h.1 in
            (omega (arith, l, first), omega (arith, r, last, size)),
        λ here. let l = here.0 in let r = here.1 in
            is.1 (omega (arith, l, first), omega (arith, r, last, size)),
      )

  module _ (a : A) (key : order.is_key a) where
    to_block : (bs : List Block) → AllByRecursion (IsBlock width) bs
        → Any (λ b. Holds order (block_range at width b) a) bs → Any (IsInBlock (number a)) bs
    to_block [] h none = absurd none
    to_block (b ∷ bs) h (inl here) = inl ((range_is b h.0 a key).0 here)
    to_block (b ∷ bs) h (inr later) = inr (to_block bs h.1 later)

    from_block : (bs : List Block) → AllByRecursion (IsBlock width) bs
        → Any (IsInBlock (number a)) bs → Any (λ b. Holds order (block_range at width b) a) bs
    from_block [] h none = absurd none
    from_block (b ∷ bs) h (inl here) = inl ((range_is b h.0 a key).1 here)
    from_block (b ∷ bs) h (inr later) = inr (from_block bs h.1 later)

    -- the ranges of blocks hold an address just where these hold its number
    pub ranges_hold : (bs : List Block) → AllByRecursion (IsBlock width) bs
        → Any (λ b. Holds order (block_range at width b) a) bs
        ↔ (are_held width bs (number a) ≡ true)
    ranges_hold bs h = (
      λ some. in_held bs h (number a) (to_block bs h some),
      λ held. from_block bs h (held_in bs h (number a) (family.counted.in_size a key) held),
    )

    prefix_range : (b : Block) → IsBlock width b → HasAddress number a (prefix_of b)
        → Holds order (block_range at width b) a
    prefix_range b block here =
        let p = prefix_is b block in
        let ends = p.ends in
        let last = here.1 in
        let first = here.0 in
        let fits = block.2 in
        let short = block.0 in
        let size = pow_pos (width - b.length) in
        let free : width - (width - (width - b.length)) ≡ width - b.length = omega (arith, short) in
        let same : 2 ^ (width - (width - (width - b.length))) ≡ 2 ^ (width - b.length) = ap (λ k. 2 ^ k) free in
        let start : number (at b.network) ≡ b.network = family.at_number b.network (omega (arith, fits, size)) in
        (range_is b block a key).1 (omega (arith, first, start), omega (arith, last, ends, start, same))

    range_prefix : (b : Block) → IsBlock width b → Holds order (block_range at width b) a
        → HasAddress number a (prefix_of b)
    range_prefix b block held =
        let p = prefix_is b block in
        let ends = p.ends in
        let here = (range_is b block a key).0 held in
        let first = here.0 in
        let past = here.1 in
        let fits = block.2 in
        let short = block.0 in
        let size = pow_pos (width - b.length) in
        let free : width - (width - (width - b.length)) ≡ width - b.length = omega (arith, short) in
        let same : 2 ^ (width - (width - (width - b.length))) ≡ 2 ^ (width - b.length) = ap (λ k. 2 ^ k) free in
        let start : number (at b.network) ≡ b.network = family.at_number b.network (omega (arith, fits, size)) in
        (omega (arith, first, start), omega (arith, past, ends, start, same))

    from_prefix : (bs : List Block) → AllByRecursion (IsBlock width) bs
        → SomeHasAddress number (map prefix_of bs) a
        → Any (λ b. Holds order (block_range at width b) a) bs
    from_prefix [] h none = absurd none
    from_prefix (b ∷ bs) h (inl here) = inl (prefix_range b h.0 here)
    from_prefix (b ∷ bs) h (inr later) = inr (from_prefix bs h.1 later)

    to_prefix : (bs : List Block) → AllByRecursion (IsBlock width) bs
        → Any (λ b. Holds order (block_range at width b) a) bs
        → SomeHasAddress number (map prefix_of bs) a
    to_prefix [] h none = absurd none
    to_prefix (b ∷ bs) h (inl here) = inl (range_prefix b h.0 here)
    to_prefix (b ∷ bs) h (inr later) = inr (to_prefix bs h.1 later)

    -- the prefixes of blocks have the addresses that their ranges hold
    pub prefixes_ranges : (bs : List Block) → AllByRecursion (IsBlock width) bs
        → SomeHasAddress number (map prefix_of bs) a
        ↔ Any (λ b. Holds order (block_range at width b) a) bs
    prefixes_ranges bs h = (from_prefix bs h, to_prefix bs h)

module _ {A : Type 0} (order : KeyOrder A) (at : ℕ → A) (width : ℕ) where
  any_push : (P : Block → Type 0) (bs : List Block) (b : Block)
      → Any P (bs ++ b ∷ []) ↔ (Any P bs ⊎ P b)
  any_push P [] b = (
    λ some. elim some [ inl here ↦ inr here | inr none ↦ absurd none ],
    λ some. elim some [ inl none ↦ absurd none | inr here ↦ inl here ],
  )
  any_push P (c ∷ bs) b =
      let rest = any_push P bs b in (
        λ some. elim some [
          | inl here ↦ inl (inl here)
          | inr later ↦ elim (rest.0 later) [ inl before ↦ inl (inr before) | inr last ↦ inr last ]
        ],
        λ some. elim some [
          | inl before ↦ elim before [ inl here ↦ inl here | inr later ↦ inr (rest.1 (inl later)) ]
          | inr last ↦ inr (rest.1 (inr last))
        ],
      )

  -- the addresses of one block more are added
  pub one_more : (before after : List (Item (AnyRange A) (Unit {0}))) (bs : List Block) (i : ℕ)
      (d : Block) → i < length bs → HoldsBlocks order at width before (take i bs)
      → HoldsAlso order before after (block_range at width (get_or bs i d))
      → HoldsBlocks order at width after (take (i + 1) bs)
  one_more before after bs i d less is added a key =
      let P : Block → Type 0 = λ b. Holds order (block_range at width b) a in
      let both = any_push P (take i bs) (get_or bs i d) in
      let new = added a key in
      let old = is a key in
      rw (take_more bs i d less) (
        λ held. both.1 (elim (new.0 held) [ inl had ↦ inl (old.0 had) | inr here ↦ inr here ]),
        λ some. new.1 (elim (both.0 some) [ inl had ↦ inl (old.1 had) | inr here ↦ inr here ]),
      )

pub all_at : (P : Block → Type 0) (bs : List Block) (i : ℕ) (d : Block) → AllByRecursion P bs
    → i < length bs → P (get_or bs i d)
all_at P [] i d h less = absurd (omega arith)
all_at P (b ∷ bs) zero d h less = h.0
all_at P (b ∷ bs) (suc i) d h less = all_at P bs i d h.1 (omega arith)
