-- The values that a set has, told by a test, and what becomes of them.
use Rattle.std.specs.Prelude.{◌≡◌, Bool, false, not, ◌&&◌, ◌||◌, Option, Some, None}

module _ {S V : Type 0} (has : S → V → Bool) where
  -- the set has no value
  abbrev pub HasNone : S → Type 0
  HasNone s = (v : V) → has s v ≡ false

  -- the sets have the same values
  abbrev pub HaveSame : S → S → Type 0
  HaveSame s t = (v : V) → has s v ≡ has t v

  -- the third set has the values of either
  abbrev pub HasEither : S → S → S → Type 0
  HasEither s t new = (v : V) → has new v ≡ (has s v || has t v)

  -- the third set has the values of the first that are not in the second
  abbrev pub HasFirstAlone : S → S → S → Type 0
  HasFirstAlone s t new = (v : V) → has new v ≡ (has s v && not (has t v))

  -- whether the value is in the set, if there is one
  abbrev pub among : Option S → V → Bool
  among None v = false
  among (Some s) v = has s v

  -- the one has what the other has, and the values of the set
  abbrev pub HasAllAlso : Option S → Option S → S → Type 0
  HasAllAlso before after s = (v : V) → among after v ≡ (has s v || among before v)

  -- the one has what the other has, but for the values of the set
  abbrev pub HasAllWithout : Option S → Option S → S → Type 0
  HasAllWithout before after s = (v : V) → among after v ≡ (not (has s v) && among before v)

  module _ (eq : V → V → Bool) where
    -- the one has what the other has, and what equals the value
    abbrev pub HasAlso : Option S → Option S → V → Type 0
    HasAlso before after v = (w : V) → among after w ≡ (eq v w || among before w)

    -- the one has what the other has, but for what equals the value
    abbrev pub HasAllBut : Option S → Option S → V → Type 0
    HasAllBut before after v = (w : V) → among after w ≡ (not (eq v w) && among before w)
