-- How many keys a key type has, and so how large the length of a map or a set can be.
use Rattle.std.specs.Prelude.{◌≡◌, ℕ, ℤ, ◌+◌, ◌≤◌, ◌<◌, List, [], ◌∷◌, length}
use Rattle.std.specs.Cmp.{ranked}
use Rattle.std.specs.List.{AllByRecursion}
use Rattle.std.specs.declared.cmp.Ordering.TheVariants.{Less}
use Rattle.std.proofs.Common.{sym, ◌∙◌, arith}
use Rattle.range_keys.specs.Order.{KeyOrder, Below}
use Rattle.range_keys.specs.Counted.{IsCounted}
use Rattle.range_keys.specs.Unsigned.{unsigned_counted}
use Rattle.range_keys.specs.Signed.{signed_counted}
use Rattle.range_keys.specs.Characters.{character_counted}
use Rattle.range_algebra.specs.Numbers.{IsNumberOfKeys, AreRising}
use Rattle.btree_range_map.specs.Names.{u8_order, u16_order, u32_order, i8_order, i16_order, i32_order, char_order}

module _ {K : Type 0} {order : KeyOrder K} {index : K → ℕ} {size : ℕ}
    (counted : IsCounted order index size) where
  rising_fit : (k : K) (keys : List K) (n : ℕ) → order.is_key k
      → AllByRecursion order.is_key keys → AllByRecursion (Below order k) keys
      → AreRising order keys → n ≤ index k → n + length keys < size
  rising_fit k [] n key keys below rising low = omega (arith, low, counted.in_size k key)
  rising_fit k (j ∷ rest) n key keys below rising low =
      let less : index k < index j =
      ranked (index k) (index j) Less (sym below.0 ∙ counted.by_index k j key keys.0) in
      let fit =
      rising_fit j rest (n + 1) keys.0 keys.1 rising.0 rising.1
      (omega (arith, low, less)) in
      omega (arith, fit)

  all_fit : (keys : List K) → AllByRecursion order.is_key keys → AreRising order keys
      → length keys ≤ size
  all_fit [] keys rising = omega arith
  all_fit (k ∷ rest) keys rising =
      omega (arith, rising_fit k rest 0 keys.0 keys.1 rising.0 rising.1 (omega arith))

  -- no more keys are of a kind than the type has
  pub number_fits : (P : K → Type 0) (n : ℕ) → IsNumberOfKeys order P n → n ≤ size
  number_fits P n number =
      omega (arith, number.many, all_fit number.keys number.in_type number.rising)

pub u8_number_fits : (P : ℕ → Type 0) (n : ℕ) → IsNumberOfKeys u8_order P n → n ≤ 256
u8_number_fits = number_fits (unsigned_counted 255)

pub u16_number_fits : (P : ℕ → Type 0) (n : ℕ) → IsNumberOfKeys u16_order P n → n ≤ 65536
u16_number_fits = number_fits (unsigned_counted 65535)

pub u32_number_fits : (P : ℕ → Type 0) (n : ℕ) → IsNumberOfKeys u32_order P n → n ≤ 4294967296
u32_number_fits = number_fits (unsigned_counted 4294967295)

pub i8_number_fits : (P : ℤ → Type 0) (n : ℕ) → IsNumberOfKeys i8_order P n → n ≤ 256
i8_number_fits = number_fits (signed_counted 127)

pub i16_number_fits : (P : ℤ → Type 0) (n : ℕ) → IsNumberOfKeys i16_order P n → n ≤ 65536
i16_number_fits = number_fits (signed_counted 32767)

pub i32_number_fits : (P : ℤ → Type 0) (n : ℕ) → IsNumberOfKeys i32_order P n → n ≤ 4294967296
i32_number_fits = number_fits (signed_counted 2147483647)

pub char_number_fits : (P : ℕ → Type 0) (n : ℕ) → IsNumberOfKeys char_order P n → n ≤ 1112064
char_number_fits = number_fits character_counted
