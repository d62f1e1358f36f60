-- What is made of two maps, and which of the four maps a command to several changes.
use Rattle.std.specs.Prelude.{◌≡◌, ◌+ℤ◌, ℤ, FitsSigned, IsErr, Option, Some, None, Result, Ok, Err}
use Rattle.std.specs.Int.{w64}
use Rattle.std.specs.Ordering.{int_eq}
use Rattle.btree_range_map.specs.Bindings.{BindAlike}
use Rattle.btree_range_map.specs.Combining.{AreCombined, MayFailOnBoth}
use Rattle.btree_range_map.specs.Order.{KeyOrder}
use Rattle.btree_range_map.specs.Overlays.{IsOverlaid, IsRestricted, IsWithout}
use Rattle.btree_range_map.specs.PartWay.{BeforeOne}
use Rattle.btree_range_map.specs.Splitting.{IsSplitAt}
use Rattle.btree_range_map.specs.Together.{BindKeysOf, ShareNoKey}
use Rattle.rangecalc.specs.Named.{at, following, put}
use Rattle.rangecalc.specs.Ranges.{Ranges}
use Rattle.rangecalc.specs.declared.answer.Reply.{Reply}
use Rattle.rangecalc.specs.declared.answer.Reply.TheVariants.{Done, Memory, Fault}
use Rattle.rangecalc.specs.declared.line.Amendment.{Amendment}
use Rattle.rangecalc.specs.declared.line.Amendment.TheVariants.{Extend, Subtract}
use Rattle.rangecalc.specs.declared.line.Kept.{Kept}
use Rattle.rangecalc.specs.declared.line.Kept.TheVariants.{In, Without}
use Rattle.rangecalc.specs.declared.line.Relation.{Relation}
use Rattle.rangecalc.specs.declared.line.Relation.TheVariants.{Equals, Subset, Apart}
use Rattle.rangecalc.specs.declared.line.Way.{Way}
use Rattle.rangecalc.specs.declared.line.Way.TheVariants.{Both, Either, Over}
use Rattle.rangecalc.specs.declared.named.Name.{Name}
use Rattle.rangecalc.specs.declared.named.Named.{Named}
use Rattle.rangecalc.specs.declared.two.Overflow.{Overflow}

-- the sum, or a fault where no `i64` is the sum
abbrev pub IsSum : ℤ → ℤ → Result (Option ℤ) Overflow → Type 0
IsSum a b (Ok made) = FitsSigned w64 (a +ℤ b) × (made ≡ Some (a +ℤ b))
IsSum a b (Err fault) = ¬ FitsSigned w64 (a +ℤ b)

-- what is made of what two maps bind a key to: a value, nothing, or a fault
abbrev pub Makes : Way → Option ℤ → Option ℤ → Result (Option ℤ) Overflow → Type 0
Makes Both (Some a) (Some b) made = IsSum a b made
Makes Both left right made = made ≡ Ok None
Makes Either (Some a) None made = made ≡ Ok (Some a)
Makes Either None (Some b) made = made ≡ Ok (Some b)
Makes Either left right made = made ≡ Ok None
Makes Over (Some a) right made = made ≡ Ok (Some a)
Makes Over None right made = made ≡ Ok right

-- keys that two maps bind so are found where the first alone binds them
abbrev pub FindsAlone : {E : Type 0} → Option ℤ → Option ℤ → Result (Option ℤ) E → Type 0
FindsAlone None right found = found ≡ Ok None
FindsAlone (Some a) None found = IsErr found
FindsAlone (Some a) (Some b) found = found ≡ Ok None

-- keys that two maps bind so are found where both bind them
abbrev pub FindsShared : {E : Type 0} → Option ℤ → Option ℤ → Result (Option ℤ) E → Type 0
FindsShared None right found = found ≡ Ok None
FindsShared (Some a) None found = found ≡ Ok None
FindsShared (Some a) (Some b) found = IsErr found

module _ {K : Type 0} (order : KeyOrder K) where
  -- the bindings of the one list for the keys that the other binds, or for all others
  abbrev pub IsKept : Kept → Ranges K → Ranges K → Ranges K → Type 0
  IsKept In items others made = IsRestricted order int_eq items others made
  IsKept Without items others made = IsWithout order int_eq items others made

  -- the keys that the other list binds are bound as there, or not at all, and all others as before
  abbrev pub IsAmended : Amendment → Ranges K → Ranges K → Ranges K → Type 0
  IsAmended Extend before others after = IsOverlaid order int_eq before others after
  IsAmended Subtract before others after = IsWithout order int_eq before others after

  -- the lists bind each key alike, or the one binds no key that the other does not, or none that it
  -- does
  abbrev pub AreRelated : Relation → Ranges K → Ranges K → Type 0
  AreRelated Equals items others = BindAlike order int_eq items others
  AreRelated Subset items others = BindKeysOf order items others
  AreRelated Apart items others = ShareNoKey order items others

  -- the map with a name keeps what lies below a key, and the next one has the others
  abbrev pub IsSplit : Name → K → Reply K → Named (Ranges K) → Named (Ranges K) → Type 0
  IsSplit name key Done old new =
      (front : Ranges K) × (back : Ranges K)
      × IsSplitAt order int_eq key (at old name) front back
      × (new ≡ put (put old name front) (following name) back)
  IsSplit name key Memory old new = new ≡ old
  IsSplit name key reply old new = ⊥

  -- the map with a name binds what the way makes of two, or a sum of the two does not fit
  abbrev pub IsCombination : Name → Way → Name → Name → Reply K → Named (Ranges K)
      → Named (Ranges K) → Type 0
  IsCombination name way first second Done old new =
      (made : Ranges K)
      × AreCombined order int_eq int_eq int_eq (Makes way) (at old first) (at old second) made
      × (new ≡ put old name made)
  IsCombination name way first second Fault old new =
      (fault : Overflow)
      × MayFailOnBoth order (Makes way) (at old first) (at old second) fault × (new ≡ old)
  IsCombination name way first second Memory old new = new ≡ old
  IsCombination name way first second reply old new = ⊥

  -- the map with a name has some of the bindings of the first of two
  abbrev pub IsKeeping : Name → Kept → Name → Name → Reply K → Named (Ranges K)
      → Named (Ranges K) → Type 0
  IsKeeping name kept first second Done old new =
      (made : Ranges K) × IsKept kept (at old first) (at old second) made
      × (new ≡ put old name made)
  IsKeeping name kept first second Memory old new = new ≡ old
  IsKeeping name kept first second reply old new = ⊥

  -- the map with a name is changed by another, or by the ranges of that before one of them
  abbrev pub IsAmending : Name → Amendment → Name → Reply K → Named (Ranges K) → Named (Ranges K)
      → Type 0
  IsAmending name amendment other Done old new =
      (after : Ranges K) × IsAmended amendment (at old name) (at old other) after
      × (new ≡ put old name after)
  IsAmending name amendment other Memory old new =
      (after : Ranges K)
      × BeforeOne (at old other) (λ front. IsAmended amendment (at old name) front after)
      × (new ≡ put old name after)
  IsAmending name amendment other reply old new = ⊥
