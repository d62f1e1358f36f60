-- Whatever table routes a block, it has as many entries as the block needs.
use Rattle.std.proofs.Common.{◌≡◌, ℕ, zero, suc, ◌+◌, ◌≤◌, Bool, true, false, [], ◌∷◌, length, Option, Some, None, Decides, refl, ap, sym, ◌∙◌, arith}
use Rattle.shortest_tables.specs.Tables.{Bits, Table}
use Rattle.shortest_tables.specs.Labels.{Labels, Unbound, Among, half, has, join, labels, leaf}
use Rattle.shortest_tables.proofs.Costs.{Enters, cost, enters_join, join_pays, lacks, missing, missing_le_one, penalty, penalty_le_one}
use Rattle.shortest_tables.proofs.Descends.{descend, or_above, root, size, split_length, under}

module _ {V : Type 0} where
  -- below a label the table routes the addresses of the block as the map says
  abbrev pub Routes : ℕ → (Bits → Option V) → Table V → Option V → Type 0
  Routes width f t above = (a : Bits) → length a ≡ width → descend t above a ≡ f a

  routes_half : (width : ℕ) (f : Bits → Option V) (t : Table V) (above : Option V)
      → Routes (suc width) f t above → (b : Bool)
      → Routes width (half b f) (under b t) (or_above (root t) above)
  routes_half width f t above routes b a e = routes (b ∷ a) (ap (λ n. suc n) e)

  enters_above : (ls : Labels V) (r above : Option V) → Enters ls (or_above r above)
      → Enters ls above
  enters_above Unbound None above h = h
  enters_above Unbound (Some v) above h = absurd (cc)
  enters_above (Among v vs) r above h = tt

  none_above : (r above x : Option V) → or_above r above ≡ x → x ≡ None → above ≡ None
  none_above None above x e n = e ∙ n
  none_above (Some v) above x e n = absurd (cc)

module _ {V : Type 0} (eq : V → V → Bool) where
  enters_leaf : (r above x : Option V) → or_above r above ≡ x → Enters (leaf eq x) above
  enters_leaf r above None e = none_above r above None e refl
  enters_leaf r above (Some v) e = tt

  -- a block with an unbound address takes no label
  enters : (width : ℕ) (f : Bits → Option V) (t : Table V) (above : Option V)
      → Routes width f t above → Enters (labels eq width f) above
  enters zero f t above routes = enters_leaf (root t) above (f []) (routes [] refl)
  enters (suc width) f t above routes =
      enters_above (labels eq (suc width) f) (root t) above
      (enters_join eq (labels eq width (half false f)) (labels eq width (half true f))
      (or_above (root t) above)
      (enters width (half false f) (under false t) (or_above (root t) above)
      (routes_half width f t above routes false))
      (enters width (half true f) (under true t) (or_above (root t) above)
      (routes_half width f t above routes true)))

  module _ (eq_is : (a b : V) → Decides (eq a b) (a ≡ b)) where
    same_has : (u v : V) → u ≡ v → lacks (has eq u (v ∷ [])) ≡ 0
    same_has u v e =
        let is : has eq u (v ∷ []) ≡ true = rw ((eq_is v u).1 (sym e)) refl in ap (λ b. lacks b) is

    least_leaf : (r above x : Option V) → or_above r above ≡ x
        → missing eq (leaf eq x) above ≤ size r
    least_leaf r above None e = omega arith
    least_leaf (Some w) above (Some v) e = missing_le_one eq (Among v []) above
    least_leaf None None (Some v) e = absurd (cc)
    least_leaf None (Some u) (Some v) e = let h = same_has u v (cc) in omega arith

    -- the entries at the root of the block save no more than as many in its halves
    least_join : (ls ms : Labels V) (r above : Option V) → Enters ls (or_above r above)
        → Enters ms (or_above r above)
        → penalty eq ls ms + missing eq (join eq ls ms) above
        ≤ size r + (missing eq ls (or_above r above) + missing eq ms (or_above r above))
    least_join Unbound Unbound r above h k = omega arith
    least_join Unbound (Among w ws) None None h k = omega arith
    least_join Unbound (Among w ws) None (Some u) h k = absurd (cc)
    least_join Unbound (Among w ws) (Some v) above h k = absurd (cc)
    least_join (Among v vs) Unbound None None h k = omega arith
    least_join (Among v vs) Unbound None (Some u) h k = absurd (cc)
    least_join (Among v vs) Unbound (Some x) above h k = absurd (cc)
    least_join (Among v vs) (Among w ws) None None h k =
        let some = penalty_le_one eq (Among v vs) (Among w ws) in
        let one = missing_le_one eq (join eq (Among v vs) (Among w ws)) None in omega arith
    least_join (Among v vs) (Among w ws) None (Some u) h k =
        let least = (join_pays eq eq_is u v vs w ws).least in omega arith
    least_join (Among v vs) (Among w ws) (Some u) above h k =
        let least = (join_pays eq eq_is u v vs w ws).least in
        let one = missing_le_one eq (join eq (Among v vs) (Among w ws)) above in omega arith

    pub least : (width : ℕ) (f : Bits → Option V) (t : Table V) (above : Option V)
        → Routes width f t above
        → cost eq width f + missing eq (labels eq width f) above ≤ length t
    least zero f t above routes =
        let leaf_least = least_leaf (root t) above (f []) (routes [] refl) in
        let split = split_length t in omega arith
    least (suc width) f t above routes =
        let next : Option V = or_above (root t) above in
        let first = routes_half width f t above routes false in
        let second = routes_half width f t above routes true in
        let both = least_join (labels eq width (half false f)) (labels eq width (half true f))
        (root t) above (enters width (half false f) (under false t) next first)
        (enters width (half true f) (under true t) next second) in
        let low = least width (half false f) (under false t) next first in
        let high = least width (half true f) (under true t) next second in
        let split = split_length t in omega arith
