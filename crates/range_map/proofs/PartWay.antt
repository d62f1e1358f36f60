-- A list that is gone over, and what holds of the part of it that is done.
use Rattle.std.proofs.Common.{◌≡◌, refl, sym, ap, ◌∙◌, List, [], ◌∷◌, ◌++◌}
use Rattle.range_map.proofs.Common.{arith, common_steps, append-nil, KeyOrder, AnyRange, Item, AreGaps, BeforeOne, BeforeOneGap}

module _ {A : Type 0} where
  -- P holds of what stands before the rest
  pub record IsPartWay (P : List A → Type 0) (all rest : List A) : Type 0 where
    pub done : List A
    pub split : done ++ rest ≡ all
    pub so_far : P done

  pub set_out : (P : List A → Type 0) (all : List A) → P [] → IsPartWay P all all
  set_out P all none = record { done = []; split = refl; so_far = none }

  pub one_done : {P Q : List A → Type 0} {all rest others : List A} {x : A} → rest ≡ x ∷ others
      → ((done : List A) → done ++ x ∷ others ≡ all → P done → Q (done ++ x ∷ []))
      → IsPartWay P all rest → IsPartWay Q all others
  one_done {others = others} {x = x} came step way = grind (arith, common_steps)

  -- where it stopped at the next element
  pub stopped : {P : List A → Type 0} {all rest others : List A} {x : A} → rest ≡ x ∷ others
      → IsPartWay P all rest → BeforeOne all P
  stopped {others = others} {x = x} came way =
      (way.done, x, others, ap (λ l. way.done ++ l) (sym came) ∙ way.split, way.so_far)

  -- where nothing is left
  pub arrived : {P : List A → Type 0} {all rest : List A} → rest ≡ [] → IsPartWay P all rest → P all
  arrived {P = P} ended way = grind (arith, common_steps, append-nil)

pub stopped_at_gap : {K V : Type 0} {order : KeyOrder K} {P : List (AnyRange K) → Type 0}
    {items : List (Item (AnyRange K) V)} {gaps rest others : List (AnyRange K)} {g : AnyRange K}
    → AreGaps order items gaps → rest ≡ g ∷ others → IsPartWay P gaps rest
    → BeforeOneGap order items P
stopped_at_gap {gaps = gaps} are came way = (gaps, are, stopped came way)
