-- What an update makes of what one key is bound to.
use Rattle.std.specs.Prelude.{◌↔◌, Bool, List, Option, Result, Ok}
use Rattle.range_map.specs.Common.{KeyOrder, Holds, AnyRange, Item, IsAsAnswered, Binds}

-- over what the closure may answer to a value, or to none
module _ {K : Type 0} (order : KeyOrder K) {V : Type 0} (same : V → V → Bool) {E : Type 0}
    (may : Option V → Result (Option V) E → Type 0) where
  -- the closure may give an answer to what the key was bound to, and the key is now bound as that
  -- says
  pub record IsRebound (items new : List (Item (AnyRange K) V)) (k : K) : Type 0 where
    pub old : Option V
    pub answer : Option V
    pub was : Binds order same items k old
    pub given : may old (Ok answer)
    pub is : (b : Option V) → Binds order same new k b ↔ IsAsAnswered same answer b

  -- each key of the range is bound as an answer to what it was bound to says, and each other key as
  -- before
  pub record AreRebound (items new : List (Item (AnyRange K) V)) (r : AnyRange K) : Type 0 where
    pub held : (k : K) → order.is_key k → Holds order r k → IsRebound items new k
    pub others : (k : K) → order.is_key k → ¬ Holds order r k → (b : Option V)
        → Binds order same new k b ↔ Binds order same items k b
