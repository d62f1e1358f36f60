-- A loop that writes items one after the other.
use Rattle.std.proofs.Common.{◌≡◌, refl, ℕ, List, [], ◌∷◌, ◌++◌, Option, Some, Result}
use Rattle.range_map.proofs.Common.{arith, common_steps, IsOk, AnyRange, Item}
use Rattle.std.specs.Fmt.{HasWritten, IsPlainFormatter, DisplaysOnOk, option_append}
use Rattle.std.specs.declared.fmt.Error.{Error}
use Rattle.std.specs.declared.fmt.Formatter.{Formatter}
use Rattle.std.proofs.Output.{writes_in_calls_nil, has_written_append}
use Rattle.range_map.specs.Texts.{item_text, items_text}

-- where two texts are known together, each is
pub both_known : (o p : Option (List ℕ)) (text : List ℕ) → option_append o p ≡ Some text
    → (a b : List ℕ) × (o ≡ Some a) × (p ≡ Some b) × (text ≡ a ++ b)
both_known o p text e = grind (arith, common_steps)

module _ {K V : Type 0} (key_text : K → Option (List ℕ)) (value_text : V → Option (List ℕ))
    {W : Type 0} (took : W → List ℕ → W → Type 0) where
  -- g is f after all items but those that are left
  abbrev pub HasShown : List (Item (AnyRange K) V) → List (Item (AnyRange K) V) → Formatter W
      → Formatter W → Type 0
  HasShown all left f g =
      (text : List ℕ) → items_text key_text value_text all ≡ Some text → IsPlainFormatter f
      → (done : List ℕ) × (rest : List ℕ) × (items_text key_text value_text left ≡ Some rest)
      × (text ≡ done ++ rest) × HasWritten took f done g

  pub shown_none : (all : List (Item (AnyRange K) V)) (f : Formatter W) → HasShown all all f f
  shown_none all f text e plain =
      ([], text, e, refl, record { wrote = writes_in_calls_nil took f.writer; plain = plain })

  pub shown_more : (all left : List (Item (AnyRange K) V)) (i : Item (AnyRange K) V)
      (f g h : Formatter W) (r : Result (Unit {0}) Error) → HasShown all (i ∷ left) f g
      → DisplaysOnOk took g r (item_text key_text value_text i) h → IsOk r → HasShown all left f h
  shown_more all left i f g h r shown displays ok text e plain =
      let before = shown text e plain in
      let parts =
      both_known (item_text key_text value_text i)
      (items_text key_text value_text left) before.1 before.2 in (
        before.0 ++ parts.0,
        parts.1,
        parts.3,
        grind (arith, common_steps),
        grind (arith, common_steps, has_written_append),
      )
