-- A text, one character after the other from its end.
use Rattle.std.proofs.Common.{◌≡◌, refl, sym, ap, ap₂, subst, ◌∙◌, ◌↔◌, ℕ, zero, suc, ◌-◌, ◌+◌, ◌≤◌, ◌<◌, true, List, [], ◌∷◌, ◌++◌, length, drop, get_or, arith}
use Rattle.std.proofs.lemmas.Bool.{and_parts}
use Rattle.std.proofs.lemmas.List.{drop_more}
use Rattle.std.proofs.lemmas.Str.{chars-encodes, encodes-chars, scalars-chars}
use Rattle.std.specs.Str.{chars, encode_utf8_all, all_scalars, IsUtf8}
use Rattle.regex_class.specs.Ranges.{in_ranges}
use Rattle.regex_hir.specs.Re.{empty, literal, char_in, cat}
use Rattle.lexing_patterns.specs.declared.part.Part.{Part}
use Rattle.lexing_patterns.specs.Languages.{IsLanguage}
use Rattle.lexing_patterns.specs.Built.{IsBuilt}
use Rattle.lexing_patterns.specs.Sizes.{HasSize, Size, class_size, size_of, step_count, text_size, turn_size}
use Rattle.lexing_classes.proofs.Ranges.{in_ranges_any}
use Rattle.lexing_patterns.proofs.Meanings.{language_same, language_empty, language_cat, language_char_in, language_literal, language_through}

-- the pattern of these characters matches them alone
language_spelled : (cs : List ℕ) → all_scalars cs ≡ true
    → IsLanguage (literal (encode_utf8_all cs)) (λ w. w ≡ cs)
language_spelled cs s =
    let same = chars-encodes cs s in
    grind (arith, language_same, language_literal (encode_utf8_all cs) (cs, (s, refl)))

pub literal_ends : (r : Part) (low high : ℕ) → IsBuilt empty r low high
    → IsBuilt (literal []) r low high
literal_ends r low high is = record {
  language = language_through is.language language_empty (language_spelled [] refl);
  within = is.within;
  size = subst (HasSize r) (sym (ap text_size (chars-encodes [] refl))) is.size;
  taken = (λ has. has, λ has. has ([], (refl, refl)));
}

itself : (c d : ℕ) → (in_ranges ((c, c) ∷ []) d ≡ true) ↔ (d ≡ c)
itself c d = grind (arith, in_ranges_any ((c, c) ∷ []) d 0 0)

language_begun : (c : ℕ) (cs : List ℕ) → all_scalars cs ≡ true
    → IsLanguage (cat (char_in ((c, c) ∷ [])) (literal (encode_utf8_all cs))) (λ w. w ≡ c ∷ cs)
language_begun c cs s =
    language_same
    (λ w _. (
      λ h. (c ∷ [], cs, h, (c, refl, (itself c c).1 refl), refl),
      grind (arith, itself c),
    ))
    (language_cat (language_char_in ((c, c) ∷ [])) (language_spelled cs s))

scalars_drop : (n : ℕ) (cs : List ℕ) → all_scalars cs ≡ true → all_scalars (drop n cs) ≡ true
scalars_drop zero cs s = s
scalars_drop (suc n) [] s = refl
scalars_drop (suc n) (c ∷ cs) s = scalars_drop n cs (and_parts _ _ s).1

-- as large as the first character and the rest in turn
spelled_size : (c : ℕ) (cs : List ℕ) → all_scalars (c ∷ cs) ≡ true
    → size_of (cat (char_in ((c, c) ∷ [])) (literal (encode_utf8_all cs)))
    ≡ size_of (literal (encode_utf8_all (c ∷ cs)))
spelled_size c cs s =
    ap (λ ds. turn_size (class_size ((c, c) ∷ [])) (text_size ds))
    (chars-encodes cs (and_parts _ _ s).1) ∙ sym (ap text_size (chars-encodes (c ∷ cs) s))

abbrev steps_of : Size → ℕ
steps_of size = size.steps

pub no_text_steps : step_count (literal []) ≡ 1
no_text_steps = ap (λ ds. steps_of (text_size ds)) (chars-encodes [] refl)

text_rest : (cs : List ℕ) (i : ℕ) → (text_size (drop i cs)).steps ≤ (text_size cs).steps
text_rest cs zero = omega arith
text_rest [] (suc i) = omega arith
text_rest (c ∷ cs) (suc i) = omega (arith, text_rest cs i)

spelled_steps : (cs : List ℕ) → all_scalars cs ≡ true
    → step_count (literal (encode_utf8_all cs)) ≡ steps_of (text_size cs)
spelled_steps cs s = ap (λ ds. steps_of (text_size ds)) (chars-encodes cs s)

-- a text takes no fewer steps than its end
rest_steps : (cs : List ℕ) (i : ℕ) → all_scalars cs ≡ true
    → step_count (literal (encode_utf8_all (drop i cs)))
    ≤ step_count (literal (encode_utf8_all cs))
rest_steps cs i s =
    omega (
      arith,
      spelled_steps cs s,
      spelled_steps (drop i cs) (scalars_drop i cs s),
      text_rest cs i,
    )

at_least_one : (cs : List ℕ) → 1 ≤ (text_size cs).steps
at_least_one [] = omega arith
at_least_one (c ∷ cs) = omega (arith, at_least_one cs)

pub some_steps : (cs : List ℕ) → all_scalars cs ≡ true
    → 1 ≤ step_count (literal (encode_utf8_all cs))
some_steps cs s = omega (arith, spelled_steps cs s, at_least_one cs)

module _ (cs : List ℕ) (i c : ℕ) (s : all_scalars cs ≡ true) (some : 0 < i)
    (within : i ≤ length cs) (at : c ≡ get_or cs (i - 1) c) where
  begun : drop (i - 1) cs ≡ c ∷ drop i cs
  begun = grind (arith, drop_more cs (i - 1) c)

  pub begun_steps : step_count (cat (char_in ((c, c) ∷ [])) (literal (encode_utf8_all (drop i cs))))
      ≡ step_count (literal (encode_utf8_all (drop (i - 1) cs)))
  begun_steps =
      let scalars = rw begun at (scalars_drop (i - 1) cs s) in
      rw begun (ap steps_of (spelled_size c (drop i cs) scalars))

  pub whole_steps : step_count (cat (char_in ((c, c) ∷ [])) (literal (encode_utf8_all (drop i cs))))
      ≤ step_count (literal (encode_utf8_all cs))
  whole_steps = omega (arith, begun_steps, rest_steps cs (i - 1) s)

pub literal_begins : (cs : List ℕ) (i c : ℕ) (r : Part) (low high : ℕ) → all_scalars cs ≡ true
    → 0 < i → i ≤ length cs → c ≡ get_or cs (i - 1) c
    → IsBuilt (cat (char_in ((c, c) ∷ [])) (literal (encode_utf8_all (drop i cs)))) r low high
    → IsBuilt (literal (encode_utf8_all (drop (i - 1) cs))) r low high
literal_begins cs i c r low high s some within at is =
    let more : drop (i - 1) cs ≡ c ∷ drop i cs = grind (arith, drop_more cs (i - 1) c) in
    rw more (record {
      language = language_through is.language (language_begun c (drop i cs) (scalars_drop i cs s))
          (language_spelled (c ∷ drop i cs) (rw more at (scalars_drop (i - 1) cs s)));
      within = is.within;
      size = subst (HasSize r)
          (spelled_size c (drop i cs) (rw more at (scalars_drop (i - 1) cs s))) is.size;
      taken = (
        λ has. has,
        λ has. has (c ∷ drop i cs, (rw more at (scalars_drop (i - 1) cs s), refl)),
      );
    })

-- the characters of a text that is read from bytes
module _ (cs text bytes : List ℕ) (made : cs ≡ chars text) (same : text ≡ bytes)
    (utf8 : IsUtf8 bytes) where
  pub scalars_read : all_scalars cs ≡ true
  scalars_read = ap all_scalars made ∙ scalars-chars text (subst IsUtf8 (sym same) utf8)

  pub coded_read : encode_utf8_all cs ≡ bytes
  coded_read =
      ap encode_utf8_all made ∙ encodes-chars text (subst IsUtf8 (sym same) utf8) ∙ same
