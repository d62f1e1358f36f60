-- Over complete keys a range whose start is not past its end holds a key.
use Rattle.std.proofs.Common.{◌≡◌, refl, ap, Option, Some, None, false, IsSome, ◌⊎◌, arith, rules}
use Rattle.std.specs.declared.cmp.Ordering.{Ordering}
use Rattle.std.specs.declared.cmp.Ordering.TheVariants.{Less, Equal, Greater}
use Rattle.std.specs.Ordering.{is_gt}
use Rattle.std.specs.Cmp.{tied_itself}
use Rattle.range_keys.specs.Order.{KeyOrder, IsLawful, IsComplete, Below, Tells}
use Rattle.range_keys.specs.Position.{start_position, end_position, position_cmp}
use Rattle.range_keys.specs.declared.inner.position.Position.{Position}
use Rattle.range_keys.specs.declared.inner.position.Position.TheVariants.{MinusInfinity, Beside, PlusInfinity}
use Rattle.range_keys.specs.declared.inner.position.Side.TheVariants.{Before, At, After}
use Rattle.range_keys.specs.PositionOrder.{position_total}
use Rattle.range_keys.proofs.Orderings.{not_greater_unless_greater}
use Rattle.range_keys.proofs.BoundPositions.{IsStart, IsEnd, starts_lie_at_starts, ends_lie_at_ends}
use Rattle.range_algebra.specs.Range.{Holds, IsKeyless, IsEmptyRange, IsKeyRange}
use Rattle.range_algebra.specs.declared.any.AnyRange.{AnyRange}
use Rattle.range_algebra.proofs.Holding.{holds_by_position}

pub none_is_not_some : {K : Type 0} (o : Option K) → o ≡ None → IsSome o → ⊥
none_is_not_some o e h = grind arith

module _ {K : Type 0} (order : KeyOrder K) (lawful : IsLawful order)
    (complete : IsComplete order) where
  -- a key that is told as a neighbour tells one itself
  pub no_pred : (a b : K) (o : Option K) → order.succ a ≡ o → Tells order o b → order.pred b ≡ None
      → ⊥
  no_pred a b None e t n = t
  no_pred a b (Some c) e t n =
      let same = lawful.pred_congr c b t in let told = lawful.succ_pred a c e in grind arith

  -- a key from the one place to the other
  HasKey : Position K → Position K → Type 0
  HasKey s e =
      (k : K) × order.is_key k × (is_gt (position_cmp order.cmp s (Beside k At)) ≡ false)
      × (is_gt (position_cmp order.cmp (Beside k At) e) ≡ false)

  at_itself : (p : Position K) → is_gt (position_cmp order.cmp p p) ≡ false
  at_itself p = ap is_gt (tied_itself (position_total order.cmp lawful.total) p)

  key_lies_between : (a b : K)
      → Tells order (order.succ a) b ⊎
      ((c : K) × order.is_key c × Below order a c × Below order c b) → order.succ a ≡ None
      → HasKey (Beside a After) (Beside b Before)
  unfolding HasKey
  key_lies_between a b h e = grind arith

  key_lies_past : (a : K) → IsSome order.greatest ⊎ ((c : K) × order.is_key c × Below order a c)
      → order.greatest ≡ None → HasKey (Beside a After) PlusInfinity
  unfolding HasKey
  key_lies_past a h e = grind arith

  key_lies_under : (b : K) → IsSome order.least ⊎ ((c : K) × order.is_key c × Below order c b)
      → order.least ≡ None → HasKey MinusInfinity (Beside b Before)
  unfolding HasKey
  key_lies_under b h e = grind arith

  places_have_key_between : (s e : Position K) → IsStart order s → IsEnd order e
      → is_gt (position_cmp order.cmp s e) ≡ false → HasKey s e
  unfolding IsStart IsEnd HasKey
  places_have_key_between (Beside a At) e p q h = (a, p, at_itself (Beside a At), h)
  places_have_key_between s (Beside b At) p q h = (b, q, h, at_itself (Beside b At))
  places_have_key_between (Beside a After) (Beside b Before) p q h = search (rules, key_lies_between, complete.next, not_greater_unless_greater)
  places_have_key_between (Beside a After) PlusInfinity p q h = search (rules, key_lies_past, complete.above)
  places_have_key_between MinusInfinity (Beside b Before) p q h = search (rules, key_lies_under, complete.below)
  places_have_key_between MinusInfinity PlusInfinity p q h = search (rules, complete.some_key)
  places_have_key_between (Beside a Before) e p q h = absurd p
  places_have_key_between PlusInfinity e p q h = absurd p
  places_have_key_between s MinusInfinity p q h = absurd q
  places_have_key_between s (Beside b After) p q h = absurd q

  pub nonempty_holds : (r : AnyRange K) → IsKeyRange order r
      → is_gt (position_cmp order.cmp (start_position order r.start) (end_position order r.end))
      ≡ false → (k : K) × order.is_key k × Holds order r k
  unfolding HasKey
  nonempty_holds r known h =
      let found =
      places_have_key_between (start_position order r.start) (end_position order r.end)
      (starts_lie_at_starts order lawful r.start known.0)
      (ends_lie_at_ends order lawful r.end known.1) h in
      (found.0, found.1, (holds_by_position order lawful r found.0 found.1).1 (found.2, found.3))

  keyless_by : (r : AnyRange K) → IsKeyRange order r → IsKeyless order r → (o : Ordering)
      → position_cmp order.cmp (start_position order r.start) (end_position order r.end) ≡ o
      → o ≡ Greater
  keyless_by r known none Less e = let found =
      nonempty_holds r known (ap is_gt e) in absurd (none found.0 found.1 found.2)
  keyless_by r known none Equal e = let found =
      nonempty_holds r known (ap is_gt e) in absurd (none found.0 found.1 found.2)
  keyless_by r known none Greater e = refl

  pub keyless_is_empty : (r : AnyRange K) → IsKeyRange order r → IsKeyless order r
      → IsEmptyRange order r
  keyless_is_empty r known none = search (rules, keyless_by)
