-- What texts say: at most one thing each.
use Rattle.std.proofs.Common.{◌≡◌, ◌≢◌, ℕ, Bool, List, [], Option, None, Some, MatchOption, inl, inr, ap, sym, subst, ◌∙◌, arith}
use Rattle.std.proofs.NetLemmas.Theorems.{IsIpv4Text_unique, IsIpv6Text_unique}
use Rattle.std.specs.List.{after_first, before_first}
use Rattle.std.specs.Net.Addr.{ipv4_bits, ipv6_bits}
use Rattle.address_text.specs.Lines.{HasByte, IsLength, IsMask, IsPrefixSpan, IsShort, IsSpan, Says, content, is_slash}
use Rattle.address_text.specs.Texts.{IsAddressText, width}
use Rattle.address_text.specs.declared.family.Family.{Family}
use Rattle.address_text.specs.declared.family.Family.TheVariants.{V4, V6}
use Rattle.address_text.specs.declared.line.Line.{Line}
use Rattle.address_text.specs.declared.line.Line.TheVariants.{Nothing, Addresses}
use Rattle.address_text.proofs.Masks.{mask_unique}

pub address_unique : (family : Family) (text : List ℕ) (a b : ℕ) → IsAddressText family text a
    → IsAddressText family text b → a ≡ b
address_unique V4 text a b (x, tx, ex) (y, ty, ey) =
    ex ∙ ap ipv4_bits (IsIpv4Text_unique text x y tx ty) ∙ sym ey
address_unique V6 text a b (x, tx, ex) (y, ty, ey) =
    ex ∙ ap ipv6_bits (IsIpv6Text_unique text x y tx ty) ∙ sym ey

-- a text tells one length at most
pub length_unique : (family : Family) (text : List ℕ) (a b : ℕ) → IsLength family text a
    → IsLength family text b → a ≡ b
length_unique family text a b (inl one) (inl other) = sym one.0.1 ∙ other.0.1
length_unique family text a b (inl one) (inr other) = absurd (other.0 a one)
length_unique family text a b (inr one) (inl other) = absurd (one.0 b other)
length_unique family text a b (inr (none, mask, of, is)) (inr (lacks, other, writes, masks)) =
    mask_unique (width family) mask a b is
    (subst (λ m. IsMask (width family) b m) (address_unique family text other mask writes of) masks)

-- a text that is no number tells the length of its mask
pub mask_tells : (family : Family) (text : List ℕ) (mask : ℕ) (r : Option ℕ)
    → ((n : ℕ) → ¬ IsShort family text n) → IsAddressText family text mask
    → MatchOption r ((length : ℕ) → ¬ IsMask (width family) length mask)
    (λ length. IsMask (width family) length mask)
    → MatchOption r ((length : ℕ) → ¬ IsLength family text length)
    (λ length. IsLength family text length)
mask_tells family text mask None none of masks = λ length is. elim is [
  | inl short ↦ none length short
  | inr (lacks, other, writes, masked) ↦
      masks length
      (subst (λ m. IsMask (width family) length m) (address_unique family text other mask writes of)
      masked)
]
mask_tells family text mask (Some length) none of is = inr (none, mask, of, is)

-- no text before a slash makes a prefix of what is no length
pub no_length : (strict : Bool) (family : Family) (text digits : List ℕ)
    → ((length : ℕ) → ¬ IsLength family digits length) → (first last : ℕ)
    → ¬ IsPrefixSpan strict family text digits first last
no_length strict family text digits none first last span = none span.length span.told

module _ (strict : Bool) (family : Family) (text : List ℕ) where
  not_prefix : HasByte is_slash text
      → ((first last : ℕ) → ¬ IsPrefixSpan strict family (before_first is_slash text)
      (after_first is_slash text) first last)
      → (first last : ℕ) → ¬ IsSpan strict family text first last
  not_prefix has none first last (inl (slash, span)) = none first last span
  not_prefix has none first last (inr others) = grind arith

  -- a text with a slash says what its prefix does
  pub prefix_says : (address digits : List ℕ) (r : Option (ℕ × ℕ)) → HasByte is_slash text
      → address ≡ before_first is_slash text → digits ≡ after_first is_slash text
      → MatchOption r ((first last : ℕ) → ¬ IsPrefixSpan strict family address digits first last)
      (λ span. IsPrefixSpan strict family address digits span.0 span.1)
      → MatchOption r ((first last : ℕ) → ¬ IsSpan strict family text first last)
      (λ span. IsSpan strict family text span.0 span.1)
  prefix_says address digits None has front back none =
      not_prefix has (rw (front, back) at none)
  prefix_says address digits (Some span) has front back some = grind arith

-- a line that says addresses of neither family, and has content, says nothing that is known
pub says_neither : (strict : Bool) (line : List ℕ) → content line ≢ []
    → ((first last : ℕ) → ¬ IsSpan strict V4 (content line) first last)
    → ((first last : ℕ) → ¬ IsSpan strict V6 (content line) first last)
    → (said : Line) → ¬ Says strict line said
says_neither strict line some v4 v6 Nothing says = some says
says_neither strict line some v4 v6 (Addresses V4 first last) says = v4 first last says.1
says_neither strict line some v4 v6 (Addresses V6 first last) says = v6 first last says.1
