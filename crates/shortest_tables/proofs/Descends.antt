-- A route, found bit by bit.
use Rattle.std.proofs.Common.{◌≡◌, ℕ, ◌+◌, ◌≤◌, Bool, true, false, if◌then◌else◌, [], ◌∷◌, length, Option, Some, None, refl, ap, sym, ◌∙◌, arith}
use Rattle.shortest_tables.specs.Tables.{Bits, Table, holds, longer, longest, route, same, shorter, value_of}

module _ {V : Type 0} where
  -- the value of the first entry that has the empty prefix
  abbrev pub root : Table V → Option V
  root [] = None
  root (([], v) ∷ t) = Some v
  root ((b ∷ p, v) ∷ t) = root t

  -- the entries whose prefixes begin with a bit, which is taken off
  abbrev pub under : Bool → Table V → Table V
  under b [] = []
  under b (([], v) ∷ t) = under b t
  under b ((c ∷ p, v) ∷ t) = if same c b then (p, v) ∷ under b t else under b t

  abbrev pub or_above : Option V → Option V → Option V
  or_above None above = above
  or_above (Some v) above = Some v

  -- where an address is routed below a label
  abbrev pub descend : Table V → Option V → Bits → Option V
  descend t above [] = or_above (root t) above
  descend t above (b ∷ a) = descend (under b t) (or_above (root t) above) a

  abbrev pub size : Option V → ℕ
  size None = 0
  size (Some v) = 1

  pub split_length : (t : Table V)
      → size (root t) + (length (under false t) + length (under true t)) ≤ length t
  split_length [] = omega arith
  split_length (([], v) ∷ t) = let h = split_length t in omega arith
  split_length ((true ∷ p, v) ∷ t) = let h = split_length t in omega arith
  split_length ((false ∷ p, v) ∷ t) = let h = split_length t in omega arith

  abbrev root_entry : Option V → Option (Bits × V)
  root_entry None = None
  root_entry (Some v) = Some ([], v)

  longer_root : (v : V) (r : Option V) → longer ([], v) (root_entry r) ≡ Some ([], v)
  longer_root v None = refl
  longer_root v (Some w) = refl

  longest_root : (t : Table V) → longest t [] ≡ root_entry (root t)
  longest_root [] = refl
  longest_root (([], v) ∷ t) = ap (longer ([], v)) (longest_root t) ∙ longer_root v (root t)
  longest_root ((b ∷ p, v) ∷ t) = longest_root t

  -- the longest prefix is one that begins with the bit, or else the empty one
  abbrev joined : Bool → Option (Bits × V) → Option V → Option (Bits × V)
  joined b (Some e) r = Some (b ∷ e.0, e.1)
  joined b None r = root_entry r

  longer_joined : (b : Bool) (p : Bits) (v : V) (l : Option (Bits × V)) (r : Option V)
      → longer (b ∷ p, v) (joined b l r) ≡ joined b (longer (p, v) l) r
  longer_joined b p v None None = refl
  longer_joined b p v None (Some w) = refl
  longer_joined b p v (Some d) r =
      elim (shorter p d.0) as (λ s. (if s then Some (b ∷ d.0, d.1) else Some (b ∷ p, v))
      ≡ joined b (if s then Some d else Some (p, v)) r) [ true ↦ refl | false ↦ refl ]

  root_joined : (b : Bool) (v : V) (l : Option (Bits × V)) (r : Option V)
      → longer ([], v) (joined b l r) ≡ joined b l (Some v)
  root_joined b v None None = refl
  root_joined b v None (Some w) = refl
  root_joined b v (Some d) r = refl

  one_more : (b h : Bool) (p : Bits) (v : V) (x l : Option (Bits × V)) (r : Option V)
      → x ≡ joined b l r
      → (if h then longer (b ∷ p, v) x else x) ≡ joined b (if h then longer (p, v) l else l) r
  one_more b true p v x l r e = ap (longer (b ∷ p, v)) e ∙ longer_joined b p v l r
  one_more b false p v x l r e = e

  longest_step : (b : Bool) (a : Bits) (t : Table V)
      → longest t (b ∷ a) ≡ joined b (longest (under b t) a) (root t)
  longest_step b a [] = refl
  longest_step b a (([], v) ∷ t) =
      ap (longer ([], v)) (longest_step b a t) ∙ root_joined b v (longest (under b t) a) (root t)
  longest_step true a ((true ∷ p, v) ∷ t) =
      one_more true (holds p a) p v (longest t (true ∷ a)) (longest (under true t) a) (root t)
      (longest_step true a t)
  longest_step true a ((false ∷ p, v) ∷ t) = longest_step true a t
  longest_step false a ((true ∷ p, v) ∷ t) = longest_step false a t
  longest_step false a ((false ∷ p, v) ∷ t) =
      one_more false (holds p a) p v (longest t (false ∷ a)) (longest (under false t) a) (root t)
      (longest_step false a t)

  value_root : (r above : Option V) → or_above (value_of (root_entry r)) above ≡ or_above r above
  value_root None above = refl
  value_root (Some v) above = refl

  value_joined : (b : Bool) (l : Option (Bits × V)) (r above : Option V)
      → or_above (value_of (joined b l r)) above ≡ or_above (value_of l) (or_above r above)
  value_joined b None None above = refl
  value_joined b None (Some v) above = refl
  value_joined b (Some e) r above = refl

  descend_is : (t : Table V) (above : Option V) (a : Bits)
      → or_above (value_of (longest t a)) above ≡ descend t above a
  descend_is t above [] =
      ap (λ e. or_above (value_of e) above) (longest_root t) ∙ value_root (root t) above
  descend_is t above (b ∷ a) =
      ap (λ e. or_above (value_of e) above) (longest_step b a t)
      ∙ value_joined b (longest (under b t) a) (root t) above
      ∙ descend_is (under b t) (or_above (root t) above) a

  or_none : (r : Option V) → or_above r None ≡ r
  or_none None = refl
  or_none (Some v) = refl

  pub route_is : (t : Table V) (a : Bits) → route t a ≡ descend t None a
  route_is t a = sym (or_none (route t a)) ∙ descend_is t None a
