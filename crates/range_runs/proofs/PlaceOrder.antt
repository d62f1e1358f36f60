-- The order of the places where ranges start and end, step by step.
use Rattle.std.proofs.Common.{◌≡◌, ◌⊎◌}
use Rattle.std.specs.declared.cmp.Ordering.TheVariants.{Equal}
use Rattle.range_keys.specs.Order.{KeyOrder, IsLawful}
use Rattle.range_keys.specs.Position.{position_cmp}
use Rattle.range_keys.specs.PositionOrder.{position_total}
use Rattle.range_keys.specs.declared.inner.position.Position.{Position}
use Rattle.range_algebra.specs.Intervals.{Le, Lt}
use Rattle.range_algebra.specs.Orders

module _ {K : Type 0} {order : KeyOrder K} (lawful : IsLawful order) where
  abbrev pub PLe : Position K → Position K → Type 0
  PLe p q = Le (position_cmp order.cmp) p q

  abbrev pub PLt : Position K → Position K → Type 0
  PLt p q = Lt (position_cmp order.cmp) p q

  pub le_refl : (p : Position K) → PLe p p
  le_refl = Orders.le_refl (position_cmp order.cmp) (position_total order.cmp lawful.total)

  pub lt_le : (p q : Position K) → PLt p q → PLe p q
  lt_le = Orders.lt_le (position_cmp order.cmp) (position_total order.cmp lawful.total)

  pub eq_le : (p q : Position K) → position_cmp order.cmp p q ≡ Equal → PLe p q
  eq_le = Orders.eq_le (position_cmp order.cmp) (position_total order.cmp lawful.total)

  pub eq_ge : (p q : Position K) → position_cmp order.cmp p q ≡ Equal → PLe q p
  eq_ge = Orders.eq_ge (position_cmp order.cmp) (position_total order.cmp lawful.total)

  pub le_trans : (p q r : Position K) → PLe p q → PLe q r → PLe p r
  le_trans = Orders.le_trans (position_cmp order.cmp) (position_total order.cmp lawful.total)

  pub lt_trans : (p q r : Position K) → PLt p q → PLt q r → PLt p r
  lt_trans = Orders.lt_trans (position_cmp order.cmp) (position_total order.cmp lawful.total)

  pub lt_le_trans : (p q r : Position K) → PLt p q → PLe q r → PLt p r
  lt_le_trans = Orders.lt_le_trans (position_cmp order.cmp) (position_total order.cmp lawful.total)

  pub le_lt_trans : (p q r : Position K) → PLe p q → PLt q r → PLt p r
  le_lt_trans = Orders.le_lt_trans (position_cmp order.cmp) (position_total order.cmp lawful.total)

  pub lt_not_le : (p q : Position K) → PLt p q → PLe q p → ⊥
  lt_not_le = Orders.lt_not_le (position_cmp order.cmp) (position_total order.cmp lawful.total)

  pub not_le : (p q : Position K) → (PLe q p → ⊥) → PLt p q
  not_le = Orders.not_le (position_cmp order.cmp) (position_total order.cmp lawful.total)

  pub not_lt : (p q : Position K) → (PLt q p → ⊥) → PLe p q
  not_lt = Orders.not_lt (position_cmp order.cmp) (position_total order.cmp lawful.total)

  pub cases : (p q : Position K) → PLt p q ⊎ PLe q p
  cases = Orders.cases (position_cmp order.cmp) (position_total order.cmp lawful.total)

  pub both : (p q : Position K) → PLe p q → PLe q p → position_cmp order.cmp p q ≡ Equal
  both = Orders.both (position_cmp order.cmp) (position_total order.cmp lawful.total)
