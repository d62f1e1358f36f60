-- What is written of texts, one after the other.
use Rattle.std.proofs.Common.{arith, ◌≡◌, ◌≢◌, ℕ, List, [], ◌∷◌, ◌++◌, refl, append_assoc}
use Rattle.std.specs.Prelude.{Bool, true, false, Option, Result, OnOk, cond}
use Rattle.std.specs.Io.KnownBytes.{Appends}
use Rattle.line_program.specs.Listing.{SpellsEach, SpellsLines, Writes}
use Rattle.std.proofs.lemmas.List.{append-nil}
use Rattle.std.proofs.lemmas.Result.{on_ok_weaker}

pub append_nil : (xs : List ℕ) → xs ++ [] ≡ xs
append_nil xs = grind (arith, append-nil)

pub appends_none : (known : Option (List ℕ)) → Appends known known []
appends_none known = grind (arith, append_nil)

pub appends_then : (a b c : Option (List ℕ)) (x y : List ℕ) → Appends a b x → Appends b c y
    → Appends a c (x ++ y)
appends_then a b c x y p q = grind (arith, append_assoc)

pub on_ok_as : {A E : Type 0} (r : Result A E) (P Q : Type 0) → (P → Q) → OnOk r P → OnOk r Q
on_ok_as r P Q follows ok = grind (arith, follows)

-- what is written where all goes well fits what follows too
pub writes_as : {A E : Type 0} (r : Result A E) (before now : Option (List ℕ))
    (Fits Follows : List ℕ → Type 0) → ((text : List ℕ) → Fits text → Follows text)
    → OnOk r (Writes before now Fits) → OnOk r (Writes before now Follows)
writes_as r before now Fits Follows follows =
    on_ok_weaker r (λ (text, fits, appended). (text, follows text fits, appended))

module _ {X : Type 0} (SpellsOne : X → List ℕ → Type 0) where
  -- the lines of those before the ones that are left are written
  pub record HasShown (all left : List X) (before now : Option (List ℕ)) : Type 0 where
    pub written : List ℕ
    pub appended : Appends before now written
    pub goes_on : (lines : List ℕ) → SpellsEach SpellsOne left lines
        → SpellsEach SpellsOne all (written ++ lines)

  pub shown_none : (all : List X) (known : Option (List ℕ)) → HasShown all all known known
  shown_none all known = grind (arith, appends_none)

  pub shown_more : (all left : List X) (x : X) (before now next : Option (List ℕ))
      → HasShown all (x ∷ left) before now → Writes now next (SpellsOne x)
      → HasShown all left before next
  shown_more all left x before now next shown (line, spelled, more) = record {
    written = shown.written ++ line;
    appended = grind (arith, appends_then);
    goes_on = λ lines rest. rw append_assoc
        (shown.goes_on (line ++ lines) (line, lines, spelled, rest, refl));
  }

  pub shown_all : (all : List X) (before now : Option (List ℕ)) → HasShown all [] before now
      → Writes before now (SpellsEach SpellsOne all)
  shown_all all before now shown =
      (shown.written, rw append_nil at (shown.goes_on [] refl), shown.appended)

  -- a listing so far: those before the ones that are left are written, and nothing else is yet
  -- where there was none
  pub record IsListing (all left : List X) (before now : Option (List ℕ)) (is_empty : Bool)
      : Type 0 where
    pub shown : HasShown all left before now
    pub untouched : is_empty ≡ true → (left ≡ all) × (now ≡ before)
    pub touched : is_empty ≡ false → all ≢ []

  pub listing_none : (all : List X) (known : Option (List ℕ)) → IsListing all all known known true
  listing_none all known = grind (arith, shown_none)

  pub listing_more : {all left rest : List X} {x : X} {before now next : Option (List ℕ)}
      {is_empty : Bool} → IsListing all left before now is_empty → left ≡ x ∷ rest
      → Writes now next (SpellsOne x) → IsListing all rest before next false
  listing_more listing step more = grind (arith, shown_more)

  -- all is listed, and the line of an empty listing follows where there was nothing
  pub listed : {all left : List X} {before now : Option (List ℕ)} (next : Option (List ℕ))
      (none : List ℕ) (is_empty : Bool) → IsListing all left before now is_empty → left ≡ []
      → Appends now next (cond is_empty none [])
      → Writes before next (SpellsLines SpellsOne none all)
  listed next none true listing ended appended = (none, grind arith, grind arith)
  listed next none false listing ended appended = let (text, each, written) =
      shown_all _ _ _ (rw ended at listing.shown) in
      (text, grind arith, grind (arith, appends_then, append_nil))
