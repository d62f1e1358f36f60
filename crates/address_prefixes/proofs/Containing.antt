-- The prefix of so many bits that has an address.
use Rattle.std.proofs.Common.{◌≡◌, ℕ, ◌+◌, ◌-◌, ◌^◌, ◌≤◌, bit_and, ap, subst, sym, refl, ◌∙◌, arith}
use Rattle.btree_range_map.specs.Order.{KeyOrder}
use Rattle.address_keys.specs.Families.{IsFamily}
use Rattle.address_prefixes.specs.Prefixes.{IsAligned, IsPrefix}
use Rattle.address_prefixes.proofs.Powers.{IsBlock, block_is}

module _ {A : Type 0} {order : KeyOrder A} {number : A → ℕ} {at : ℕ → A} {width : ℕ}
    (family : IsFamily order number at width) (address : A) (key : order.is_key address)
    (length n rest told : ℕ) (within : length ≤ told) (is_width : told ≡ width)
    (is_number : n ≡ number address) (size : rest + 1 ≡ 2 ^ (told - length)) where
  size_is : rest + 1 ≡ 2 ^ (width - length)
  size_is = subst (λ w. rest + 1 ≡ 2 ^ (w - length)) is_width size

  pub block : IsBlock width length n rest
  block =
      block_is width length n rest (omega (arith, within, is_width))
      (let small = family.counted.in_size address key in omega (arith, small, is_number)) size_is

  pub contains : (network last : A) → network ≡ at (n - bit_and n rest)
      → last ≡ at (n - bit_and n rest + rest)
      → (length ≡ length)
      × IsPrefix number width (record { network = network; last = last; length = length })
      × ((number network ≤ number address) × (number address ≤ number last))
  contains network last first_is last_is =
      let fits = block.fits in
      let first : number network ≡ n - bit_and n rest =
      ap number first_is ∙ family.at_number (n - bit_and n rest) (omega (arith, fits)) in
      let end : number last ≡ n - bit_and n rest + rest =
      ap number last_is ∙ family.at_number (n - bit_and n rest + rest) fits in
      let below = block.below in
      let over = block.within in (
        refl,
        record {
          short = omega (arith, within, is_width);
          aligned = subst (λ m. IsAligned m (width - length)) (sym first) block.aligned;
          ends = let s = size_is in omega (arith, first, end, s);
          fits = omega (arith, end, fits);
        },
        (omega (arith, first, is_number, below), omega (arith, end, is_number, over)),
      )
