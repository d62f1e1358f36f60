-- The number of entries that a block needs, below a given label.
use Rattle.std.proofs.Common.{◌≡◌, ℕ, zero, suc, ◌+◌, ◌≤◌, Bool, true, false, ◌&&◌, ◌||◌, if◌then◌else◌, List, [], ◌∷◌, ◌++◌, Option, Some, None, Decides, refl, ap, sym, subst, ◌∙◌, arith}
use Rattle.shortest_tables.specs.Tables.{Bits}
use Rattle.shortest_tables.specs.Labels.{Labels, Unbound, Among, among_or, choose, common, half, has, join, labels}

abbrev pub lacks : Bool → ℕ
lacks b = if b then 0 else 1

-- m: whether the block needs an entry of its own; p: whether one of its halves does, whatever its
-- label; s: how many of the halves do, below the label
pub record Pays (p m s : ℕ) : Type 0 where
  pub least : p + m ≤ s
  pub exact : m ≡ 0 → s ≡ p

pays_none : (a b : Bool) → false ≡ (a && b) → Pays 1 (lacks (a || b)) (lacks a + lacks b)
pays_none true true e = absurd (cc)
pays_none true false e = record { least = omega arith; exact = λ h. refl }
pays_none false true e = record { least = omega arith; exact = λ h. refl }
pays_none false false e = record { least = omega arith; exact = λ h. omega arith }

pays_some : (a b : Bool) → Pays 0 (lacks (a && b)) (lacks a + lacks b)
pays_some true true = record { least = omega arith; exact = λ h. refl }
pays_some true false = record { least = omega arith; exact = λ h. omega arith }
pays_some false true = record { least = omega arith; exact = λ h. omega arith }
pays_some false false = record { least = omega arith; exact = λ h. omega arith }

and_false : (r : Bool) → (r && false) ≡ false
and_false true = refl
and_false false = refl

with_it : (e r s c : Bool) → (e ≡ true → s ≡ true) → c ≡ (r && s) → (e || c) ≡ ((e || r) && s)
with_it true r s c h is = sym (h refl)
with_it false r s c h is = is

without_it : (e r s c : Bool) → (e ≡ true → s ≡ false) → c ≡ (r && s) → c ≡ ((e || r) && s)
without_it true r s c h is = is ∙ ap (λ x. r && x) (h refl) ∙ and_false r ∙ sym (h refl)
without_it false r s c h is = is

or_more : (e r s c : Bool) → c ≡ (r || s) → (e || c) ≡ ((e || r) || s)
or_more true r s c is = refl
or_more false r s c is = is

module _ {V : Type 0} where
  -- which labels may come from above: none, where an address is unbound
  abbrev pub Enters : Labels V → Option V → Type 0
  Enters Unbound above = above ≡ None
  Enters (Among v vs) above = Unit {0}

  abbrev pub one_if_none : List V → ℕ
  one_if_none [] = 1
  one_if_none (u ∷ us) = 0

module _ {V : Type 0} (eq : V → V → Bool) where
  -- 1 where the block needs an entry of its own, as the label from above is none of the best
  abbrev pub missing : Labels V → Option V → ℕ
  missing Unbound above = 0
  missing (Among v vs) None = 1
  missing (Among v vs) (Some u) = lacks (has eq u (v ∷ vs))

  -- 1 where one of two halves needs an entry, as no label is best for both
  abbrev pub penalty : Labels V → Labels V → ℕ
  penalty Unbound Unbound = 0
  penalty Unbound (Among w ws) = 1
  penalty (Among v vs) Unbound = 1
  penalty (Among v vs) (Among w ws) = one_if_none (common eq (v ∷ vs) (w ∷ ws))

  -- the entries of a block below one of its labels
  abbrev pub cost : ℕ → (Bits → Option V) → ℕ
  cost zero f = 0
  cost (suc width) f =
      (cost width (half false f) + cost width (half true f))
      + penalty (labels eq width (half false f)) (labels eq width (half true f))

  lacks_le_one : (b : Bool) → lacks b ≤ 1
  lacks_le_one true = omega arith
  lacks_le_one false = omega arith

  pub missing_le_one : (ls : Labels V) (above : Option V) → missing ls above ≤ 1
  missing_le_one Unbound above = omega arith
  missing_le_one (Among v vs) None = omega arith
  missing_le_one (Among v vs) (Some u) = lacks_le_one (has eq u (v ∷ vs))

  none_le_one : (us : List V) → one_if_none us ≤ 1
  none_le_one [] = omega arith
  none_le_one (u ∷ us) = omega arith

  pub penalty_le_one : (ls ms : Labels V) → penalty ls ms ≤ 1
  penalty_le_one Unbound Unbound = omega arith
  penalty_le_one Unbound (Among w ws) = omega arith
  penalty_le_one (Among v vs) Unbound = omega arith
  penalty_le_one (Among v vs) (Among w ws) = none_le_one (common eq (v ∷ vs) (w ∷ ws))

  enters_among : (us : List V) (v : V) (vs : List V) (above : Option V)
      → Enters (among_or eq us v vs) above
  enters_among [] v vs above = tt
  enters_among (u ∷ us) v vs above = tt

  pub enters_join : (ls ms : Labels V) (above : Option V) → Enters ls above → Enters ms above
      → Enters (join eq ls ms) above
  enters_join Unbound ms above h k = h
  enters_join (Among v vs) Unbound above h k = k
  enters_join (Among v vs) (Among w ws) above h k =
      enters_among (common eq (v ∷ vs) (w ∷ ws)) v (vs ++ w ∷ ws) above

  -- the halves may take what the block chooses
  pub enters_first : (ls ms : Labels V) (above : Option V)
      → Enters ls (choose eq (join eq ls ms) above)
  enters_first Unbound ms above = refl
  enters_first (Among v vs) ms above = tt

  pub enters_second : (ls ms : Labels V) (above : Option V)
      → Enters ms (choose eq (join eq ls ms) above)
  enters_second Unbound Unbound above = refl
  enters_second (Among v vs) Unbound above = refl
  enters_second ls (Among w ws) above = tt

  module _ (eq_is : (a b : V) → Decides (eq a b) (a ≡ b)) where
    common_step : (u v : V) (vs ws cs : List V) (t : Bool) → has eq v ws ≡ t
        → has eq u cs ≡ (has eq u vs && has eq u ws)
        → has eq u (if t then v ∷ cs else cs) ≡ ((eq v u || has eq u vs) && has eq u ws)
    common_step u v vs ws cs true is e =
        with_it (eq v u) (has eq u vs) (has eq u ws) (has eq u cs)
        (λ same. ap (λ x. has eq x ws) (sym ((eq_is v u).0 same)) ∙ is) e
    common_step u v vs ws cs false is e =
        without_it (eq v u) (has eq u vs) (has eq u ws) (has eq u cs)
        (λ same. ap (λ x. has eq x ws) (sym ((eq_is v u).0 same)) ∙ is) e

    has_common : (u : V) (vs ws : List V)
        → has eq u (common eq vs ws) ≡ (has eq u vs && has eq u ws)
    has_common u [] ws = refl
    has_common u (v ∷ vs) ws =
        common_step u v vs ws (common eq vs ws) (has eq v ws) refl (has_common u vs ws)

    has_append : (u : V) (vs ws : List V) → has eq u (vs ++ ws) ≡ (has eq u vs || has eq u ws)
    has_append u [] ws = refl
    has_append u (v ∷ vs) ws =
        or_more (eq v u) (has eq u vs) (has eq u ws) (has eq u (vs ++ ws)) (has_append u vs ws)

    among_pays : (u v : V) (vs : List V) (w : V) (ws cs : List V)
        → has eq u cs ≡ (has eq u (v ∷ vs) && has eq u (w ∷ ws))
        → Pays (one_if_none cs) (missing (among_or eq cs v (vs ++ w ∷ ws)) (Some u))
        (lacks (has eq u (v ∷ vs)) + lacks (has eq u (w ∷ ws)))
    among_pays u v vs w ws [] e =
        subst (λ h. Pays 1 (lacks h) (lacks (has eq u (v ∷ vs)) + lacks (has eq u (w ∷ ws))))
        (sym (has_append u (v ∷ vs) (w ∷ ws)))
        (pays_none (has eq u (v ∷ vs)) (has eq u (w ∷ ws)) e)
    among_pays u v vs w ws (c ∷ cs) e =
        subst (λ h. Pays 0 (lacks h) (lacks (has eq u (v ∷ vs)) + lacks (has eq u (w ∷ ws))))
        (sym e) (pays_some (has eq u (v ∷ vs)) (has eq u (w ∷ ws)))

    pub join_pays : (u v : V) (vs : List V) (w : V) (ws : List V)
        → Pays (penalty (Among v vs) (Among w ws))
        (missing (join eq (Among v vs) (Among w ws)) (Some u))
        (missing (Among v vs) (Some u) + missing (Among w ws) (Some u))
    join_pays u v vs w ws =
        among_pays u v vs w ws (common eq (v ∷ vs) (w ∷ ws)) (has_common u (v ∷ vs) (w ∷ ws))
