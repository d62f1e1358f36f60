-- The theorem: the table of a map routes as it, and no shorter one does.
use Rattle.std.proofs.Common.{◌≡◌, ℕ, Bool, Option, None, Decides, refl, sym, ◌∙◌, arith}
use Rattle.shortest_tables.specs.Tables.{Bits, IsShortest, IsTableOf}
use Rattle.shortest_tables.specs.Labels.{Labels, Unbound, Among, labels, table}
use Rattle.shortest_tables.proofs.Costs.{Enters}
use Rattle.shortest_tables.proofs.Descends.{route_is}
use Rattle.shortest_tables.proofs.Least.{least}
use Rattle.shortest_tables.proofs.Made.{made_length, made_routes}

module _ {V : Type 0} (eq : V → V → Bool) (eq_is : (a b : V) → Decides (eq a b) (a ≡ b)) where
  enters_none : (ls : Labels V) → Enters ls None
  enters_none Unbound = refl
  enters_none (Among v vs) = tt

  pub is_table : (width : ℕ) (f : Bits → Option V) → IsTableOf width f (table eq width f)
  is_table width f a e =
      route_is (table eq width f) a
      ∙ made_routes eq eq_is width f None (enters_none (labels eq width f)) a e

  pub is_shortest : (width : ℕ) (f : Bits → Option V) → IsShortest width f (table eq width f)
  is_shortest width f others is =
      let low = least eq eq_is width f others None (λ a e. sym (route_is others a) ∙ is a e) in
      let own = made_length eq eq_is width f None in omega arith
