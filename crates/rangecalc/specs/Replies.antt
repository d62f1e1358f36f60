-- The lines of replies, as their bytes.
use Rattle.std.specs.Prelude.{◌≡◌, ℕ, ℤ, Bool, true, false, Option, Some, None, List, [], ◌∷◌, ◌++◌, codes, decimal}
use Rattle.std.specs.Fmt.{signed_decimal}
use Rattle.btree_range_map.specs.AnyRange.{AnyRange}
use Rattle.btree_range_map.specs.Item.{Item}
use Rattle.btree_range_map.specs.Iteration.{pair_item}
use Rattle.rangecalc.specs.declared.answer.Reply.{Reply}
use Rattle.rangecalc.specs.declared.answer.Reply.TheVariants.{Done, Memory, Nothing, Value, Stored, Taken, Fault, Truth, Number}

-- a range by its first and its last key
abbrev pub span_text : ℤ → ℤ → List ℕ
span_text first last = signed_decimal first ++ codes "..=" ++ signed_decimal last

-- the line of a stored range: its first and its last key, and its value
abbrev pub SpellsItem : {K : Type 0} → Item (AnyRange K) ℤ → List ℕ → Type 0
SpellsItem item text =
    (first : ℤ) × (last : ℤ)
    × (text ≡ span_text first last ++ codes " " ++ signed_decimal item.value ++ 10 ∷ [])

-- the line of a free range: its first and its last key
abbrev pub SpellsGap : {K : Type 0} → AnyRange K → List ℕ → Type 0
SpellsGap gap text = (first : ℤ) × (last : ℤ) × (text ≡ span_text first last ++ 10 ∷ [])

-- a value, or the word for a free piece
abbrev pub binding_text : Option ℤ → List ℕ
binding_text (Some value) = signed_decimal value
binding_text None = codes "free"

-- the line of a piece: its first and its last key, and what it is bound to
abbrev pub SpellsPiece : {K : Type 0} → Item (AnyRange K) (Option ℤ) → List ℕ → Type 0
SpellsPiece piece text =
    (first : ℤ) × (last : ℤ)
    × (text ≡ span_text first last ++ codes " " ++ binding_text piece.value ++ 10 ∷ [])

abbrev pub truth_text : Bool → List ℕ
truth_text true = codes "true\n"
truth_text false = codes "false\n"

-- the line of a reply
abbrev pub SpellsReply : {K : Type 0} → Reply K → List ℕ → Type 0
SpellsReply Done text = text ≡ codes "ok\n"
SpellsReply Memory text = text ≡ codes "memory\n"
SpellsReply Nothing text = text ≡ codes "none\n"
SpellsReply (Value value) text = text ≡ signed_decimal value ++ 10 ∷ []
SpellsReply (Stored stored) text = SpellsItem (pair_item stored) text
SpellsReply (Taken range) text =
    (first : ℤ) × (last : ℤ) × (text ≡ codes "taken " ++ span_text first last ++ 10 ∷ [])
SpellsReply Fault text = text ≡ codes "fault\n"
SpellsReply (Truth answer) text = text ≡ truth_text answer
SpellsReply (Number number) text = text ≡ decimal number ++ 10 ∷ []
