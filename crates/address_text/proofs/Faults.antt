-- What is wrong with a text.
use Rattle.std.proofs.Common.{◌≡◌, ℕ, suc, ◌+◌, Bool, true, false, List, [], ◌∷◌, ap, drop, refl, arith}
use Rattle.std.proofs.lemmas.Bool.{eqb-true}
use Rattle.std.specs.Char.{is_ascii_whitespace}
use Rattle.std.specs.List.{before_first}
use Rattle.address_text.specs.Faults.{IsAddress}
use Rattle.address_text.specs.Lines.{content, from_word, is_hash, trimmed}
use Rattle.address_text.specs.Texts.{IsAddressText}
use Rattle.address_text.specs.declared.family.Family.TheVariants.{V4, V6}

drop_one_more : (x n : ℕ) (xs : List ℕ) → drop (1 + n) (x ∷ xs) ≡ drop n xs
drop_one_more x n xs = let more : 1 + n ≡ suc n = omega arith in ap (λ k. drop k (x ∷ xs)) more

pub blank_first : (x : ℕ) (xs : List ℕ) → is_ascii_whitespace x ≡ true
    → from_word (x ∷ xs) ≡ from_word xs
blank_first x xs blank = grind (arith, drop_one_more)

pub blank_kept : (x : ℕ) (xs : List ℕ) → is_hash x ≡ false
    → before_first is_hash (x ∷ xs) ≡ x ∷ before_first is_hash xs
blank_kept x xs none = grind arith

no_hash : (x : ℕ) (b : Bool) → is_hash x ≡ b → is_ascii_whitespace x ≡ true → is_hash x ≡ false
no_hash x false is blank = is
no_hash x true is blank = grind (arith, eqb-true)

after_blank : (line rest : List ℕ) → from_word line ≡ from_word rest → trimmed line ≡ trimmed rest
after_blank line rest same = grind arith

from_first : (x : ℕ) (xs : List ℕ) (b : Bool) → is_ascii_whitespace x ≡ b
    → content (from_word xs) ≡ content xs → content (from_word (x ∷ xs)) ≡ content (x ∷ xs)
from_first x xs true blank later = grind (arith, blank_first, after_blank, blank_kept, no_hash)
from_first x xs false word later = grind arith

-- white space at the start of a line is no content
pub content_from_word : (line : List ℕ) → content (from_word line) ≡ content line
content_from_word [] = refl
content_from_word (x ∷ xs) = grind (arith, from_first, content_from_word xs)

pub no_address : (text : List ℕ) → ((n : ℕ) → ¬ IsAddressText V4 text n)
    → ((n : ℕ) → ¬ IsAddressText V6 text n) → ¬ IsAddress text
no_address text none others (V4, of) = none of.0 of.1
no_address text none others (V6, of) = others of.0 of.1
