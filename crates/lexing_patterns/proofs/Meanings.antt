-- The languages of patterns, one for each of their forms.
use Rattle.std.proofs.Common.{◌≡◌, refl, sym, ap, ◌∙◌, ◌↔◌, ◌⊎◌, inl, inr, ℕ, ◌+◌, ◌<◌, ◌≤◌, zero, suc, Bool, true, false, List, [], ◌∷◌, ◌++◌, length, drop, Some, arith, append_assoc, append-nil, length-append, slice_get, true≢false}
use Rattle.std.proofs.Math.Seq.{drop-append_seam}
use Rattle.std.proofs.lemmas.Bool.{and_parts}
use Rattle.std.proofs.lemmas.Grind.{common_steps}
use Rattle.std.proofs.lemmas.Option.{slice_get_cases}
use Rattle.std.proofs.lemmas.Str.{cons_from_encodes, encodes-append, encodes-chars, length-encode, encode_ascii, len_utf8_ascii}
use Rattle.std.specs.Str.{encode_utf8_all, all_scalars, chars, IsUtf8}
use Rattle.std.specs.Char.{len_utf8, encode_utf8}
use Rattle.regex_class.specs.Ranges.{in_ranges}
use Rattle.regex_hir.specs.Re.{Re, empty, literal, byte_in, char_in, cat, alt, plus}
use Rattle.regex_hir.specs.Meaning.{optional}
use Rattle.regex_hir.specs.Matches.{Matches, Rounds, one_round, next_round}
use Rattle.regex_hir.proofs.TextLemmas.{char_at_parts, char_at_from, has_bytes_at_parts, has_bytes_at_from, char_at_ascii}
use Rattle.state_sets.proofs.Fronts.{scalars_in_parts as scalars_parts}
use Rattle.state_sets.proofs.Reading.{bytes_of as end_of, bytes_of-append as end_behind}
use Rattle.lexing_patterns.specs.Languages.{InTurn, RoundsOf, one_text, more_texts, OneOf, MatchesBehind, GoesOnTo, IsLanguage}

scalars_both : (xs ys : List ℕ) → all_scalars xs ≡ true → all_scalars ys ≡ true
    → all_scalars (xs ++ ys) ≡ true
scalars_both [] ys h k = k
scalars_both (x ∷ xs) ys h k = grind (arith, scalars_both xs ys)

behind : (front rest : List ℕ) → drop (end_of front) (encode_utf8_all (front ++ rest))
    ≡ encode_utf8_all rest
behind front rest =
    ap (drop (end_of front)) (encodes-append front rest)
    ∙ drop-append_seam (encode_utf8_all front) (encode_utf8_all rest)

-- from behind what is read of the rest on, with that put to the front
after : {b : Re} {M : List ℕ → Type 0} → IsLanguage b M → (front rest u mid : List ℕ) (l at : ℕ)
    → all_scalars front ≡ true → all_scalars rest ≡ true → rest ≡ u ++ mid
    → l ≡ end_of (front ++ u)
    → Matches (encode_utf8_all (front ++ rest)) b l at ↔ GoesOnTo M (front ++ u) mid at
after is front rest u mid l at f r parts end =
    let s = scalars_parts u mid (rw parts at r) in
    rw (parts, end, ← append_assoc front u mid)
    (is.matches (front ++ u) mid (scalars_both front u f s.0) s.1 at)

pub language_same : {re : Re} {L M : List ℕ → Type 0}
    → ((w : List ℕ) → all_scalars w ≡ true → M w ↔ L w) → IsLanguage re L → IsLanguage re M
language_same same is = grind (arith, scalars_parts)

pub language_empty : IsLanguage empty (λ w. w ≡ [])
language_empty = grind (arith, append-nil)

pub language_cat : {a b : Re} {L M : List ℕ → Type 0} → IsLanguage a L → IsLanguage b M
    → IsLanguage (cat a b) (InTurn L M)
language_cat is_a is_b = record {
  matches = λ front rest f r at. (
    λ (l, first, second).
        let (u, mid, parts, end, by) = (is_a.matches front rest f r l).0 first in
        let (v, more, parts_2, end_2, by_2) =
        (after is_b front rest u mid l at f r parts end).0 second in (
          u ++ v,
          more,
          grind (arith, common_steps),
          grind (arith, append_assoc front u v),
          (u, v, refl, by, by_2),
        ),
    λ (w, more, parts, end, (u, v, split, by, by_2)).
        let whole : rest ≡ u ++ (v ++ more) = grind (arith, common_steps) in (
          end_of (front ++ u),
          (is_a.matches front rest f r _).1 (u, v ++ more, whole, refl, by),
          (after is_b front rest u (v ++ more) _ at f r whole refl).1
              (v, more, refl, grind (arith, append_assoc front u v), by_2),
        ),
  );
}

pub language_alt : {a b : Re} {L M : List ℕ → Type 0} → IsLanguage a L → IsLanguage b M
    → IsLanguage (alt a b) (λ w. L w ⊎ M w)
language_alt is_a is_b = grind arith

pub language_optional : (greedy : Bool) {a : Re} {L M : List ℕ → Type 0}
    → ((w : List ℕ) → M w ↔ (L w ⊎ (w ≡ []))) → IsLanguage a L → IsLanguage (optional greedy a) M
language_optional true same is = language_same (λ w _. same w) (language_alt is language_empty)
language_optional false same is =
    language_same (λ w _. grind (arith, same w)) (language_alt language_empty is)

module _ (a : Re) (L : List ℕ → Type 0) (is : IsLanguage a L) (front rest : List ℕ)
    (f : all_scalars front ≡ true) (r : all_scalars rest ≡ true) where
  abbrev R : ℕ → ℕ → Type 0
  R = Matches (encode_utf8_all (front ++ rest)) a

  rounds_read : (at : ℕ) → Rounds R (end_of front) at → GoesOnTo (RoundsOf L) front rest at
  rounds_read at (one_round _ h) =
      let (w, more, parts, end, by) = (is.matches front rest f r at).0 h in
      (w, more, parts, end, one_text w by)
  rounds_read at (next_round l _ before h) =
      let (u, mid, parts, end, by) = rounds_read l before in
      let (v, more, parts_2, end_2, by_2) = (after is front rest u mid l at f r parts end).0 h in (
        u ++ v,
        more,
        grind (arith, common_steps),
        grind (arith, append_assoc front u v),
        more_texts u v by by_2,
      )

  rounds_match : (w more : List ℕ) → rest ≡ w ++ more → RoundsOf L w
      → Rounds R (end_of front) (end_of (front ++ w))
  rounds_match _ more parts (one_text w by) =
      one_round _ ((is.matches front rest f r _).1 (w, more, parts, refl, by))
  rounds_match _ more parts (more_texts u v before by) =
      let whole = parts ∙ append_assoc u v more in
      next_round (end_of (front ++ u)) _ (rounds_match u (v ++ more) whole before)
      ((after is front rest u (v ++ more) _ _ f r whole refl).1
      (v, more, refl, grind (arith, append_assoc front u v), by))

pub language_plus : {greedy : Bool} {a : Re} {L : List ℕ → Type 0} → IsLanguage a L
    → IsLanguage (plus greedy a) (RoundsOf L)
language_plus {a = a} {L = L} is = record {
  matches = λ front rest f r at. (
    λ h. rounds_read a L is front rest f r at h,
    λ (w, more, parts, end, by). rw end (rounds_match a L is front rest f r w more parts by),
  );
}

-- bytes that begin with those of these characters spell them, and others behind them
spells : (cs es bs : List ℕ) → encode_utf8_all cs ≡ encode_utf8_all es ++ bs
    → (more : List ℕ) × (cs ≡ es ++ more)
spells cs [] bs e = (cs, refl)
spells cs (c ∷ es) bs e =
    let (rest, is, bytes) =
    cons_from_encodes cs (encode_utf8_all es ++ bs) c (grind (arith, common_steps)) in
    grind (arith, spells rest es bs bytes)

pub language_literal : (bs : List ℕ) → IsUtf8 bs → IsLanguage (literal bs) (λ w. w ≡ chars bs)
language_literal bs utf8 = record {
  matches = λ front rest f r at.
      let hay = encode_utf8_all (front ++ rest) in
      let i = end_of front in
      let coded = encodes-chars bs utf8 in
      grind (
        arith,
        has_bytes_at_parts hay i bs,
        spells rest (chars bs) (drop (i + length bs) hay),
        behind front rest,
        end_behind front (chars bs),
        has_bytes_at_from hay i bs,
        encodes-append (chars bs),
      );
}

one_end : (front : List ℕ) (c : ℕ) → end_of (front ++ c ∷ []) ≡ end_of front + len_utf8 c
one_end front c =
    grind (arith, end_behind front (c ∷ []), append-nil (encode_utf8 c), length-encode c)

pub language_char_in : (rs : List (ℕ × ℕ)) → IsLanguage (char_in rs) (OneOf (in_ranges rs))
language_char_in rs = record {
  matches = λ front rest f r at.
      let hay = encode_utf8_all (front ++ rest) in
      let i = end_of front in
      let here = behind front rest in
      let end = one_end front in
      grind (arith, char_at_parts hay i, cons_from_encodes rest, and_parts, char_at_from hay i);
}

at_front : (xs : List ℕ) (i c : ℕ) (rest : List ℕ) → drop i xs ≡ c ∷ rest
    → slice_get xs i ≡ Some c
at_front xs i c rest e = grind (arith, common_steps, slice_get_cases xs i)

pub language_byte_in : (rs : List (ℕ × ℕ)) → ((c : ℕ) → in_ranges rs c ≡ true → c ≤ 127)
    → IsLanguage (byte_in rs) (OneOf (in_ranges rs))
language_byte_in rs ascii = record {
  matches = λ front rest f r at.
      let hay = encode_utf8_all (front ++ rest) in
      let i = end_of front in
      let by_char = (language_char_in rs).matches front rest f r at in
      grind (
        arith,
        char_at_ascii hay i,
        len_utf8_ascii,
        char_at_parts hay i,
        at_front hay i,
        encode_ascii,
      );
}

pub language_nothing : IsLanguage (byte_in []) (λ w. ⊥)
unfolding in_ranges
language_nothing = grind arith

-- two patterns with one language in common have the others in common too
pub language_through : {a b : Re} {L M : List ℕ → Type 0} → IsLanguage a L → IsLanguage a M
    → IsLanguage b M → IsLanguage b L
language_through is_l is_m is_b = record {
  matches = λ front rest f r at.
      let l = is_l.matches front rest f r at in
      let m = is_m.matches front rest f r at in grind (arith, is_b.matches front rest f r at);
}
