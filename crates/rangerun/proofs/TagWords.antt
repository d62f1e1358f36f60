-- Which word a tag begins with, and what comes after it then.
use Rattle.std.proofs.Common.{arith, ◌≡◌, ◌≢◌, ℕ, ℤ, List, ◌∷◌, ◌++◌, ap, drop, refl, sym, ◌∙◌}
use Rattle.std.specs.Prelude.{codes}
use Rattle.rangerun.specs.declared.tag.Tag.{Tag}
use Rattle.rangerun.specs.declared.tag.Tag.TheVariants.{Set, Fill, Clear, Fail}
use Rattle.rangerun.specs.Grammar.{SpellsNumber, SpellsPair, SpellsTag}
use Rattle.line_program.specs.Lines.{Lacks, IsSplitAt}
use Rattle.rangerun.proofs.LineWords.{begins_with}

-- a word is refused where what comes after it is
pub none_of_set : (text fields : List ℕ) → text ≡ codes "set" ++ 32 ∷ fields
    → ((n : ℤ) → SpellsNumber fields n → ⊥) → (tag : Tag) → SpellsTag text tag → ⊥
none_of_set text fields is none (Set value) (v, spelled, e) =
    let same : v ≡ fields = ap (drop 4) (sym e ∙ is) in none value (rw same at spelled)
none_of_set text fields is none tag spelled = grind arith

pub none_of_fill : (text fields : List ℕ) → text ≡ codes "fill" ++ 32 ∷ fields
    → ((n : ℤ) → SpellsNumber fields n → ⊥) → (tag : Tag) → SpellsTag text tag → ⊥
none_of_fill text fields is none (Fill value) (v, spelled, e) =
    let same : v ≡ fields = ap (drop 5) (sym e ∙ is) in none value (rw same at spelled)
none_of_fill text fields is none tag spelled = grind arith

pub none_of_fail : (text fields : List ℕ) → text ≡ codes "fail" ++ 32 ∷ fields
    → ((n m : ℤ) → SpellsPair fields n m → ⊥) → (tag : Tag) → SpellsTag text tag → ⊥
none_of_fail text fields is none (Fail value error) (p, spelled, e) =
    let same : p ≡ fields = ap (drop 5) (sym e ∙ is) in none value error (rw same at spelled)
none_of_fail text fields is none tag spelled = grind arith

-- and so is a text that begins with none of the words
pub none_named : (text word fields : List ℕ) → IsSplitAt 32 text word fields → text ≢ codes "clear"
    → word ≢ codes "set" → word ≢ codes "fill" → word ≢ codes "fail" → (tag : Tag)
    → SpellsTag text tag → ⊥
none_named text word fields cut clear set fill fail (Set value) (v, spelled, e) =
    set (begins_with text word fields (codes "set") v cut refl e).0
none_named text word fields cut clear set fill fail (Fill value) (v, spelled, e) =
    fill (begins_with text word fields (codes "fill") v cut refl e).0
none_named text word fields cut clear set fill fail Clear e = clear e
none_named text word fields cut clear set fill fail (Fail value error) (p, spelled, e) =
    fail (begins_with text word fields (codes "fail") p cut refl e).0

-- or that is one word, and not the one that stands alone
pub none_alone : (text : List ℕ) → Lacks 32 text → text ≢ codes "clear" → (tag : Tag)
    → SpellsTag text tag → ⊥
none_alone text lacks clear tag spelled = grind (arith, lacks 3, lacks 4)
