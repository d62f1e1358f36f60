-- What is written of a key stands for that key: the laws of `ReadsBack`.
use Rattle.std.specs.Prelude.{List, [], ◌∷◌, ◌++◌, ◌==◌, chars, encode_utf8, true, refl, ◌≡◌, ℕ, ◌≤◌, ◌<◌, ◌^◌, ℤ, pos, negsuc, nat_eq, IsTrue, Option, Some, is_some}
use Rattle.std.specs.Ordering.{int_eq}
use Rattle.std.specs.Str.{all_scalars as scalars}
use Rattle.std.proofs.Common.{ap, sym, ◌∙◌, arith, rules}
use Rattle.std.proofs.lemmas.Int.{ints}
use Rattle.std.proofs.lemmas.Str.{chars-encodes}
use Rattle.range_keys.specs.Characters.{IsCharacter}
use Rattle.range_keys.specs.Signed.{IsSigned}
use Rattle.range_json.specs.Keys.{unsigned_of, unsigned_shape, signed_of, signed_shape, character_of, character_shape}

pub told_some : {X : Type 0} {f : Option X} {x : X} → f ≡ Some x → IsTrue (is_some f)
told_some e = search (rules, e)

pub same_number : {f : Option ℕ} {x y : ℕ} → f ≡ Some x → f ≡ Some y → IsTrue (nat_eq x y)
same_number e h = grind (arith, e, h)

pub same_integer : {f : Option ℤ} {x y : ℤ} → f ≡ Some x → f ≡ Some y → IsTrue (int_eq x y)
same_integer e h = grind (arith, e, h)

pub unsigned_back : (top x : ℕ) → x ≤ top → unsigned_of top (unsigned_shape x) ≡ Some x
unsigned_back top x h = grind (arith, h)

pub signed_back : (top : ℕ) → top < 2 ^ 63 → (z : ℤ) → IsSigned top z
    → signed_of top (signed_shape z) ≡ Some z
signed_back top small (pos n) h = grind (arith, ints, h, small)
signed_back top small (negsuc n) h = grind (arith, ints, h, small)

no_more : (s : List ℕ) → s ++ [] ≡ s
no_more [] = refl
no_more (b ∷ s) = ap (λ rest. b ∷ rest) (no_more s)

is_scalar : (c : ℕ) → IsCharacter c → scalars (c ∷ []) ≡ true
is_scalar c h = grind (arith, h)

-- a text of one character has that character
alone : (c : ℕ) → IsCharacter c → chars (encode_utf8 c) ≡ c ∷ []
alone c h = ap chars (sym (no_more (encode_utf8 c))) ∙ chars-encodes (c ∷ []) (is_scalar c h)

same_length : (n : ℕ) → (n == n) ≡ true
same_length n = grind arith

pub character_back : (c : ℕ) → IsCharacter c → character_of (character_shape c) ≡ Some c
character_back c h = rw (alone c h, same_length) refl
