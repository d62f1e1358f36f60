-- Bytes that are no text, whatever follows.
use Rattle.std.proofs.Common.{◌≡◌, sym, ap, subst, ◌∙◌, inl, inr, ◌⊎◌, ℕ, ◌+◌, ◌<◌, ◌≤◌, List, [], ◌∷◌, ◌++◌, take, drop, length, arith}
use Rattle.std.specs.Char.{len_utf8}
use Rattle.std.specs.Str.{IsUtf8, IsValidUpTo}
use Rattle.std.proofs.Math.Utf8.{encode, encodes}
use Rattle.std.proofs.lemmas.Grind.{common_steps}
use Rattle.std.proofs.lemmas.List.{length-drop, take-append-le, take-take}
use Rattle.std.proofs.lemmas.Str.{IsCharBoundary-from_take, IsCharBoundary-past_char, IsUtf8-drop, IsUtf8-take, len_utf8_bounds}

first_char : (bytes : List ℕ) → IsUtf8 bytes → 0 < length bytes
    → (c : ℕ) × (rest : List ℕ) × (bytes ≡ encode c ++ rest)
first_char bytes ([], (scalars, is)) some = absurd (omega (arith, ap length is, some))
first_char bytes (c ∷ cs, (scalars, is)) some = (c, encodes cs, sym is)

-- four bytes that begin no character begin none, whatever follows
pub fault_stays : (bytes more : List ℕ) (at : ℕ) → IsValidUpTo bytes at → at + 4 ≤ length bytes
    → IsValidUpTo (bytes ++ more) at
fault_stays bytes more at fault far = record {
  short = grind (arith, common_steps, far);
  front = rw (take-append-le at bytes more (omega (arith, far))) fault.front;
  longest = λ m beyond utf8.
      let text = take m (bytes ++ more) in
      let long : (at < length text) × (length text ≤ m) = grind (arith, common_steps, far, beyond) in
      let front : take at text ≡ take at bytes =
      take-take at m (bytes ++ more) (omega (arith, beyond))
      ∙ take-append-le at bytes more (omega (arith, far)) in
      let cut =
      IsCharBoundary-from_take text at utf8 (omega (arith, long.0))
      (subst IsUtf8 (sym front) fault.front) in
      let rest = IsUtf8-drop text at utf8 cut in
      let (c, behind, is) =
      first_char (drop at text) rest (omega (arith, length-drop at text, long.0)) in
      let next = IsCharBoundary-past_char text behind at c (omega (arith, long.0)) rest is in
      let bounds = len_utf8_bounds c in
      let same : take (at + len_utf8 c) text ≡ take (at + len_utf8 c) bytes =
      take-take (at + len_utf8 c) m (bytes ++ more) (omega (arith, next.0, long.1))
      ∙ take-append-le (at + len_utf8 c) bytes more (omega (arith, bounds.1, far)) in
      fault.longest (at + len_utf8 c) (omega (arith, bounds.0))
      (subst IsUtf8 same (IsUtf8-take text (at + len_utf8 c) utf8 next));
}
