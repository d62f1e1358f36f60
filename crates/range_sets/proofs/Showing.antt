-- A loop that writes ranges one after the other.
use Rattle.std.proofs.Common.{◌≡◌, refl, ◌∙◌, ap, subst, ℕ, List, [], ◌∷◌, ◌++◌, append_assoc, Option, Some, Result, sym, arith}
use Rattle.std.specs.Prelude.{IsOk}
use Rattle.std.specs.Fmt.{HasWritten, IsPlainFormatter, DisplaysOnOk}
use Rattle.std.specs.declared.fmt.Error.{Error}
use Rattle.std.specs.declared.fmt.Formatter.{Formatter}
use Rattle.std.proofs.Output.{writes_in_calls_nil, has_written_append}
use Rattle.range_algebra.specs.Texts.{range_text}
use Rattle.range_algebra.specs.declared.any.AnyRange.{AnyRange}
use Rattle.range_map.proofs.WrittenItems.{both_known}
use Rattle.range_sets.specs.SetTexts.{ranges_text}

module _ {K : Type 0} (key_text : K → Option (List ℕ)) {W : Type 0}
    (took : W → List ℕ → W → Type 0) where
  -- g is f after all ranges but those that are left
  abbrev pub HasShown : List (AnyRange K) → List (AnyRange K) → Formatter W → Formatter W → Type 0
  HasShown all left f g =
      (text : List ℕ) → ranges_text key_text all ≡ Some text → IsPlainFormatter f
      → (done : List ℕ) × (rest : List ℕ) × (ranges_text key_text left ≡ Some rest)
      × (text ≡ done ++ rest) × HasWritten took f done g

  pub shown_none : (all : List (AnyRange K)) (f : Formatter W) → HasShown all all f f
  shown_none all f text e plain =
      ([], text, e, refl, record { wrote = writes_in_calls_nil took f.writer; plain = plain })

  pub shown_more : (all left : List (AnyRange K)) (range : AnyRange K) (f g h : Formatter W)
      (r : Result (Unit {0}) Error) → HasShown all (range ∷ left) f g
      → DisplaysOnOk took g r (range_text key_text range) h → IsOk r → HasShown all left f h
  shown_more all left range f g h r shown displays ok text e plain =
      let before = shown text e plain in
      let parts =
      both_known (range_text key_text range)
      (ranges_text key_text left) before.1 before.2 in
      let wrote : HasWritten took g parts.0 h =
      (subst (λ o. DisplaysOnOk took g r o h) parts.2 displays) before.4.plain ok in
      let whole : text ≡ (before.0 ++ parts.0) ++ parts.1 =
      before.3 ∙ ap (λ (l : List ℕ). before.0 ++ l) parts.4
      ∙ sym (append_assoc before.0 parts.0 parts.1) in grind (arith, has_written_append)
