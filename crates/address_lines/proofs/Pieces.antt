-- The pieces of a text, one after the other.
use Rattle.std.proofs.Common.{◌≡◌, ℕ, ◌⊎◌, ◌↔◌, Bool, List, None, Some, inl, inr, ◌≤◌, length, ◌∙◌, false, subst, sym, arith}
use Rattle.std.proofs.lemmas.Bool.{cases_lt, false≢true}
use Rattle.std.proofs.lemmas.Grind.{common_steps}
use Rattle.std.proofs.lemmas.List.{take_all}
use Rattle.std.specs.Prelude.{IsTrue}
use Rattle.std.specs.List.{after_first, before_first, position, position_or_len}
use Rattle.address_text.specs.Lines.{HasByte}
use Rattle.address_lines.specs.Words.{HasPiece, HasSuch}
use Rattle.address_lines.specs.Words.HasPiece.{First, Later}

-- where the first byte stands that passes a test
pub stands_at : (test : ℕ → Bool) (text : List ℕ) (at : ℕ) → Some at ≡ position test text
    → (at ≡ position_or_len test text) × HasByte test text
stands_at test text at is = grind (arith, common_steps)

pub stands_nowhere : (test : ℕ → Bool) (text : List ℕ) → None ≡ position test text
    → ¬ HasByte test text
stands_nowhere test text none = λ has. grind (arith, common_steps)

-- a test that fails is of what is not so
pub not_told : {P : Type 0} (told : Bool) → told ≡ false → IsTrue told ↔ P → ¬ P
not_told told none tells = λ is. false≢true (sym none ∙ tells.1 is)

-- the last of the ways in which a word may count is asked
pub last_way : {H V P : Type 0} (told : Bool) → H → ¬ P → IsTrue told ↔ V
    → IsTrue told ↔ ((H × V) ⊎ P)
last_way told has other tells = (
  λ holds. inl (has, tells.0 holds),
  λ either. elim either [ inl (has_it, v) ↦ tells.1 v | inr p ↦ absurd (other p) ],
)

-- or the one that there is
pub one_way : {H V P : Type 0} (told : Bool) → ¬ H → IsTrue told ↔ P
    → IsTrue told ↔ ((H × V) ⊎ P)
one_way told none tells = (
  λ holds. inr (tells.0 holds),
  λ either. elim either [ inl (has_it, v) ↦ absurd (none has_it) | inr p ↦ tells.1 p ],
)

-- the last of three is asked
pub last_of_three : {V W X : Type 0} (told : Bool) → ¬ V → ¬ W → IsTrue told ↔ X
    → IsTrue told ↔ (V ⊎ (W ⊎ X))
last_of_three told one two tells = (
  λ holds. inr (inr (tells.0 holds)),
  λ either. elim either [
    | inl v ↦ absurd (one v)
    | inr (inl w) ↦ absurd (two w)
    | inr (inr x) ↦ tells.1 x
  ],
)

-- a text without a mark is asked only where it is shorter than one that is none
pub shorter_told : (P : List ℕ → Type 0) (told : Bool) (text shorter stripped : List ℕ)
    → shorter ≡ stripped
    → ((length text ≤ length shorter → shorter ≡ text) → ¬ P text → IsTrue told ↔ P shorter)
    → (length text ≤ length stripped → stripped ≡ text) → ¬ P text → IsTrue told ↔ P stripped
shorter_told P told text shorter stripped same asked whole none =
    subst (λ s. IsTrue told ↔ P s) same
    (asked (λ long. same ∙ whole (subst (λ s. length text ≤ length s) same long)) none)

module _ (cuts : ℕ → Bool) (P : List ℕ → Type 0) where
  first_or_later : (text piece : List ℕ) → HasPiece cuts text piece → P piece
      → P (before_first cuts text) ⊎ (HasByte cuts text × HasSuch cuts P (after_first cuts text))
  first_or_later text piece (First _) is = inl is
  first_or_later text piece (Later _ _ has later) is = inr (has, (piece, later, is))

  none_below : (text : List ℕ) → ¬ HasByte cuts text → length text ≤ position_or_len cuts text
  none_below text none = elim (cases_lt (position_or_len cuts text) (length text)) [
    | inl has ↦ absurd (none has)
    | inr all ↦ all
  ]

  uncut : (text : List ℕ) → ¬ HasByte cuts text → before_first cuts text ≡ text
  uncut text none = take_all (position_or_len cuts text) text (none_below text none)

  -- of a text that is cut, the first piece is such, or one of the others
  pub cut_such : (text : List ℕ) → HasByte cuts text
      → HasSuch cuts P text ↔ (P (before_first cuts text) ⊎ HasSuch cuts P (after_first cuts text))
  cut_such text has = (
    λ (piece, stands, is). elim (first_or_later text piece stands is) [
      | inl first ↦ inl first
      | inr later ↦ inr later.1
    ],
    λ either. elim either [
      | inl first ↦ (before_first cuts text, First text, first)
      | inr (piece, stands, is) ↦ (piece, Later text piece has stands, is)
    ],
  )

  -- and a text that is not has one piece
  pub whole_such : (text : List ℕ) → ¬ HasByte cuts text
      → HasSuch cuts P text ↔ P (before_first cuts text)
  whole_such text none = (
    λ (piece, stands, is). elim (first_or_later text piece stands is) [
      | inl first ↦ first
      | inr later ↦ absurd (none later.0)
    ],
    λ first. (before_first cuts text, First text, first),
  )

  -- whether all has such a piece is asked of a text: its first piece is one
  pub found_first : (All : Type 0) (text first : List ℕ) → All ↔ HasSuch cuts P text
      → HasByte cuts text → first ≡ before_first cuts text → P first → All
  found_first All text first same has is such =
      same.1 ((cut_such text has).1 (inl (subst P is such)))

  -- or is none, and the others are asked
  pub others_left : (All : Type 0) (text first more : List ℕ) → All ↔ HasSuch cuts P text
      → HasByte cuts text → first ≡ before_first cuts text → more ≡ after_first cuts text
      → ¬ P first → All ↔ HasSuch cuts P more
  others_left All text first more same has is rest other =
      subst (λ left. All ↔ HasSuch cuts P left) (sym rest) (
        λ all. elim ((cut_such text has).0 (same.0 all)) [
          | inl such ↦ absurd (other (subst P (sym is) such))
          | inr later ↦ later
        ],
        λ later. same.1 ((cut_such text has).1 (inr later)),
      )

  -- or is the last one
  pub last_tells : (All : Type 0) (text : List ℕ) (told : Bool) → All ↔ HasSuch cuts P text
      → ¬ HasByte cuts text → IsTrue told ↔ P text → IsTrue told ↔ All
  last_tells All text told same none tells =
      let whole : before_first cuts text ≡ text = uncut text none in
      let one = whole_such text none in (
        λ yes. same.1 (one.1 (subst P (sym whole) (tells.0 yes))),
        λ all. tells.1 (subst P whole (one.0 (same.0 all))),
      )
