-- Parts of classes of characters and of texts.
use Rattle.std.proofs.Common.{◌≡◌, ℕ, ◌≤◌, true, List, [], ◌∷◌, length, arith}
use Rattle.regex_class.specs.Ranges.{in_ranges}
use Rattle.regex_hir.specs.Re.{byte_in, char_in}
use Rattle.lexing_patterns.specs.declared.part.Part.{Part}
use Rattle.lexing_patterns.specs.Built.{IsBuilt}
use Rattle.lexing_patterns.proofs.Meanings.{language_byte_in, language_char_in, language_through}

pub in_no_range : (c : ℕ) → in_ranges [] c ≡ true → c ≤ 127
unfolding in_ranges
in_no_range c is = grind arith

-- without a range it is the part that matches nothing
pub none_built : (ranges : List (ℕ × ℕ)) (part : Part) (low high : ℕ) → length ranges ≡ 0
    → high ≡ low → ((at : ℕ) → IsBuilt (byte_in []) part at at)
    → IsBuilt (char_in ranges) part low high
none_built [] part low high none same is =
    let was = is low in
    rw same (record {
      language = language_through was.language (language_byte_in [] in_no_range)
          (language_char_in []);
      within = was.within;
      size = was.size;
      taken = (λ has. has, λ has. has);
    })
none_built (range ∷ ranges) part low high none same is = absurd (omega (arith, none))

-- ranges of ASCII are as good as bytes
pub bytes_built : (ranges : List (ℕ × ℕ)) (part : Part) (low high : ℕ)
    → ((c : ℕ) → in_ranges ranges c ≡ true → c ≤ 127) → IsBuilt (char_in ranges) part low high
    → IsBuilt (byte_in ranges) part low high
bytes_built ranges part low high ascii is = record {
  language = language_through is.language (language_char_in ranges)
      (language_byte_in ranges ascii);
  within = is.within;
  size = is.size;
  taken = (λ has. has, λ has. has ascii);
}
