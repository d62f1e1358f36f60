-- The table that is made: its routes, and its length.
use Rattle.std.proofs.Common.{◌≡◌, ℕ, zero, suc, ◌+◌, Bool, true, false, ◌||◌, if◌then◌else◌, List, [], ◌∷◌, ◌++◌, length, Option, Some, None, Decides, refl, ap, sym, ◌∙◌, arith, length-append}
use Rattle.shortest_tables.specs.Tables.{Bits, Table}
use Rattle.shortest_tables.specs.Labels.{Labels, Unbound, Among, among_or, behind, choose, common, entry, half, has, join, labels, leaf, table_below}
use Rattle.shortest_tables.proofs.Costs.{Enters, cost, enters_first, enters_second, join_pays, lacks, missing, penalty}
use Rattle.shortest_tables.proofs.Descends.{descend, or_above, root, under}
use Rattle.shortest_tables.proofs.Least.{Routes}

module _ {V : Type 0} where
  root_behind : (b : Bool) (t : Table V) → root (behind b t) ≡ None
  root_behind b [] = refl
  root_behind b (e ∷ t) = root_behind b t

  root_both : (t s : Table V) → root (behind false t ++ behind true s) ≡ None
  root_both [] s = root_behind true s
  root_both (e ∷ t) s = root_both t s

  under_true : (s : Table V) → under true (behind true s) ≡ s
  under_true [] = refl
  under_true (e ∷ s) = ap (λ x. e ∷ x) (under_true s)

  under_other : (s : Table V) → under false (behind true s) ≡ []
  under_other [] = refl
  under_other (e ∷ s) = under_other s

  under_first : (t s : Table V) → under false (behind false t ++ behind true s) ≡ t
  under_first [] s = under_other s
  under_first (e ∷ t) s = ap (λ x. e ∷ x) (under_first t s)

  under_second : (t s : Table V) → under true (behind false t ++ behind true s) ≡ s
  under_second [] s = under_true s
  under_second (e ∷ t) s = under_second t s

  length_behind : (b : Bool) (t : Table V) → length (behind b t) ≡ length t
  length_behind b [] = refl
  length_behind b (e ∷ t) = ap (λ n. suc n) (length_behind b t)

module _ {V : Type 0} (eq : V → V → Bool) where
  under_entry : (b : Bool) (ls : Labels V) (above : Option V) (t : Table V)
      → under b (entry eq ls above ++ t) ≡ under b t
  under_entry b Unbound above t = refl
  under_entry b (Among v vs) None t = refl
  under_entry b (Among v vs) (Some u) t =
      elim (has eq u (v ∷ vs)) as (λ h. under b ((if h then [] else ([], v) ∷ []) ++ t) ≡ under b t)
      [ true ↦ refl | false ↦ refl ]

  root_entry : (ls : Labels V) (above : Option V) (t : Table V) → root t ≡ None
      → Enters ls above → or_above (root (entry eq ls above ++ t)) above ≡ choose eq ls above
  root_entry Unbound above t none h = ap (λ r. or_above r above) none ∙ h
  root_entry (Among v vs) None t none h = refl
  root_entry (Among v vs) (Some u) t none h =
      elim (has eq u (v ∷ vs)) as (λ h. or_above (root ((if h then [] else ([], v) ∷ []) ++ t)) (Some u)
      ≡ (if h then Some u else Some v)) [
        | true ↦ ap (λ r. or_above r (Some u)) none
        | false ↦ refl
      ]

  length_entry : (ls : Labels V) (above : Option V) → length (entry eq ls above) ≡ missing eq ls above
  length_entry Unbound above = refl
  length_entry (Among v vs) None = refl
  length_entry (Among v vs) (Some u) =
      elim (has eq u (v ∷ vs)) as (λ h. length {A = Bits × V} (if h then [] else ([], v) ∷ []) ≡ lacks h)
      [ true ↦ refl | false ↦ refl ]

  -- below the label of the block its halves route
  descend_made : (ls : Labels V) (above : Option V) (t s : Table V) → Enters ls above
      → (b : Bool) (a : Bits)
      → descend (entry eq ls above ++ (behind false t ++ behind true s)) above (b ∷ a)
      ≡ descend (if b then s else t) (choose eq ls above) a
  descend_made ls above t s h true a =
      ap (λ x. descend x (or_above (root (entry eq ls above ++ (behind false t ++ behind true s))) above) a)
      (under_entry true ls above (behind false t ++ behind true s) ∙ under_second t s)
      ∙ ap (λ y. descend s y a) (root_entry ls above (behind false t ++ behind true s) (root_both t s) h)
  descend_made ls above t s h false a =
      ap (λ x. descend x (or_above (root (entry eq ls above ++ (behind false t ++ behind true s))) above) a)
      (under_entry false ls above (behind false t ++ behind true s) ∙ under_first t s)
      ∙ ap (λ y. descend t y a) (root_entry ls above (behind false t ++ behind true s) (root_both t s) h)

  module _ (eq_is : (a b : V) → Decides (eq a b) (a ≡ b)) where
    pub has_first : (v : V) (vs : List V) → has eq v (v ∷ vs) ≡ true
    has_first v vs = rw ((eq_is v v).1 refl) refl

    -- a block needs no entry below the label that it chooses
    chosen_has : (ls : Labels V) (v : V) (vs : List V) (above : Option V)
        → ls ≡ Among v vs
        → (u : V) × (choose eq ls above ≡ Some u) × (missing eq ls (Some u) ≡ 0)
    chosen_has Unbound v vs above e = absurd (cc)
    chosen_has (Among w ws) v vs None e =
        (w, refl, ap (λ b. lacks b) (has_first w ws))
    chosen_has (Among w ws) v vs (Some u) e =
        let P : Bool → Type 0 = λ h. has eq u (w ∷ ws) ≡ h
        → (x : V) × ((if h then Some u else Some w) ≡ Some x) × (missing eq (Among w ws) (Some x) ≡ 0) in
        let go : P (has eq u (w ∷ ws)) = elim (has eq u (w ∷ ws)) as P [
          | true ↦ λ is. (u, refl, ap (λ b. lacks b) is)
          | false ↦ λ is. (w, refl, ap (λ b. lacks b) (has_first w ws))
        ] in go refl

    is_among : (us : List V) (v : V) (vs : List V) → (w : V) × (ws : List V) × (among_or eq us v vs ≡ Among w ws)
    is_among [] v vs = (v, vs, refl)
    is_among (u ∷ us) v vs = (u, us, refl)

    chosen_pays : (ls ms : Labels V) (above : Option V)
        → missing eq ls (choose eq (join eq ls ms) above)
        + missing eq ms (choose eq (join eq ls ms) above) ≡ penalty eq ls ms
    chosen_pays Unbound Unbound above = refl
    chosen_pays Unbound (Among w ws) above = refl
    chosen_pays (Among v vs) Unbound above = refl
    chosen_pays (Among v vs) (Among w ws) above =
        let among = is_among (common eq (v ∷ vs) (w ∷ ws)) v (vs ++ w ∷ ws) in
        let chosen = chosen_has (join eq (Among v vs) (Among w ws)) among.0 among.1 above among.2 in
        ap (λ y. missing eq (Among v vs) y + missing eq (Among w ws) y) chosen.1
        ∙ (join_pays eq eq_is chosen.0 v vs w ws).exact chosen.2

    pub made_length : (width : ℕ) (f : Bits → Option V) (above : Option V)
        → length (table_below eq width f above) ≡ cost eq width f + missing eq (labels eq width f) above
    made_length zero f above =
        let own = length_entry (leaf eq (f [])) above in omega arith
    made_length (suc width) f above =
        let ls : Labels V = labels eq width (half false f) in
        let ms : Labels V = labels eq width (half true f) in
        let label : Option V = choose eq (join eq ls ms) above in
        let t : Table V = table_below eq width (half false f) label in
        let s : Table V = table_below eq width (half true f) label in
        let own = length_entry (join eq ls ms) above in
        let pays = chosen_pays ls ms above in
        let low = length_behind false t ∙ made_length width (half false f) label in
        let high = length_behind true s ∙ made_length width (half true f) label in
        let inner = length-append (behind false t) (behind true s) in
        let outer = length-append (entry eq (join eq ls ms) above) (behind false t ++ behind true s) in
        omega arith

    or_false : (r : Bool) → (r || false) ≡ true → r ≡ true
    or_false true e = refl
    or_false false e = e

    leaf_routes : (x above : Option V) → Enters (leaf eq x) above
        → or_above (root (entry eq (leaf eq x) above)) above ≡ x
    leaf_routes None above h = h
    leaf_routes (Some v) None h = refl
    leaf_routes (Some v) (Some u) h =
        let P : Bool → Type 0 = λ t. has eq u (v ∷ []) ≡ t
        → or_above (root (if t then [] else ([], v) ∷ [])) (Some u) ≡ Some v in
        let go : P (has eq u (v ∷ [])) = elim (has eq u (v ∷ [])) as P [
          | true ↦ λ is. ap (λ x. Some x) (sym ((eq_is v u).0 (or_false (eq v u) is)))
          | false ↦ λ is. refl
        ] in go refl

    pub made_routes : (width : ℕ) (f : Bits → Option V) (above : Option V)
        → Enters (labels eq width f) above → Routes width f (table_below eq width f above) above
    made_routes zero f above h [] e = leaf_routes (f []) above h
    made_routes zero f above h (b ∷ a) e = absurd (omega arith)
    made_routes (suc width) f above h [] e = absurd (omega arith)
    made_routes (suc width) f above h (true ∷ a) e =
        let ls : Labels V = labels eq width (half false f) in
        let ms : Labels V = labels eq width (half true f) in
        let label : Option V = choose eq (join eq ls ms) above in
        let less : length a ≡ width = omega arith in
        descend_made (join eq ls ms) above (table_below eq width (half false f) label)
        (table_below eq width (half true f) label) h true a
        ∙ made_routes width (half true f) label (enters_second eq ls ms above) a less
    made_routes (suc width) f above h (false ∷ a) e =
        let ls : Labels V = labels eq width (half false f) in
        let ms : Labels V = labels eq width (half true f) in
        let label : Option V = choose eq (join eq ls ms) above in
        let less : length a ≡ width = omega arith in
        descend_made (join eq ls ms) above (table_below eq width (half false f) label)
        (table_below eq width (half true f) label) h false a
        ∙ made_routes width (half false f) label (enters_first eq ls ms above) a less
