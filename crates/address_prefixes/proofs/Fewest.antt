-- No shorter list of prefixes has the same addresses.
use Rattle.std.proofs.Common.{◌≡◌, ℕ, ◌+◌, ◌-◌, ◌*◌, ◌^◌, ◌≤◌, ◌<◌, ◌⊎◌, List, [], ◌∷◌, length, inl, inr, ap, sym, ◌∙◌, arith}
use Rattle.std.proofs.lemmas.Bool.{cases_lt}
use Rattle.std.proofs.Math.Pow.{pow_pos, pow_mono}
use Rattle.std.specs.List.{AllByRecursion}
use Rattle.btree_range_map.specs.Order.{KeyOrder}
use Rattle.address_keys.specs.Families.{IsFamily}
use Rattle.address_prefixes.specs.Prefixes.{HasAddress, IsAligned, IsPrefix, SomeHasAddress, size}
use Rattle.address_prefixes.specs.declared.prefix.Prefix.{Prefix}
use Rattle.address_prefixes.proofs.Powers.{next_multiple, power_split}
use Rattle.address_prefixes.proofs.Tiles.{AreWidest, IsWidest}
use Rattle.std.proofs.Common.{rules}

-- an aligned block that starts in the widest one at its place lies in it
nested : (from net past m n wide k : ℕ) → from ≡ m * 2 ^ wide → net ≡ n * 2 ^ k → from ≤ net
    → net < from + 2 ^ wide → net + 2 ^ k ≤ past
    → ((j : ℕ) → IsAligned from j → from + 2 ^ j ≤ past → j ≤ wide)
    → net + 2 ^ k ≤ from + 2 ^ wide
nested from net past m n wide k from_is net_is low high inside widest = elim (cases_lt wide k) [
  | inl more ↦
      let d : ℕ = 2 ^ (k - wide) in
      let s : 2 ^ k ≡ d * 2 ^ wide = power_split wide k (omega arith) in
      let net_at : net ≡ (n * d) * 2 ^ wide = net_is ∙ ap (λ x. n * x) s ∙ (omega arith) in
      elim (cases_lt (m * 2 ^ wide) ((n * d) * 2 ^ wide)) [
        | inl less ↦ let le : m * 2 ^ wide + 2 ^ wide ≤ (n * d) * 2 ^ wide =
            next_multiple m (n * d) (2 ^ wide) less in absurd (omega arith)
        | inr not ↦
            let same : from ≡ net = omega arith in
            let le : k ≤ wide = widest k (n, same ∙ net_is) (rw same inside) in
            absurd (omega arith)
      ]
  | inr less ↦
      let d : ℕ = 2 ^ (wide - k) in
      let s : 2 ^ wide ≡ d * 2 ^ k = power_split k wide less in
      let from_at : from ≡ (m * d) * 2 ^ k = from_is ∙ ap (λ x. m * x) s ∙ (omega arith) in
      let end_at : from + 2 ^ wide ≡ (m * d + d) * 2 ^ k = omega arith in
      let le : n * 2 ^ k + 2 ^ k ≤ (m * d + d) * 2 ^ k =
      next_multiple n (m * d + d) (2 ^ k) (omega arith) in
      omega arith
]

module _ {A : Type 0} {order : KeyOrder A} {number : A → ℕ} {at : ℕ → A} {width : ℕ}
    (family : IsFamily order number at width) where
  -- a prefix that lies before the numbers from one up to another, among them, or after them
  pub record Fits (from past : ℕ) (q : Prefix A) : Type 0 where
    pub prefix : IsPrefix number width q
    pub side : (number q.last < from)
        ⊎ (((from ≤ number q.network) × (number q.last < past)) ⊎ (past ≤ number q.network))

  further : (from past : ℕ) (p q : Prefix A) → IsWidest family from past p → Fits from past q
      → Fits (from + size number width p) past q
  further from past p q w f =
      let q_ends = f.prefix.ends in
      let p_starts = w.starts in
      let low = pow_pos (width - p.length) in
      record {
        prefix = f.prefix;
        side = elim (f.side) [
          | inl before ↦ inl (omega (arith, before, low))
          | inr later ↦ elim later [
            | inl both ↦
                elim (cases_lt (number q.network) (from + size number width p)) [
                  | inl inside ↦ inl (
                      let le : number q.network + 2 ^ (width - q.length)
                      ≤ from + 2 ^ (width - p.length) =
                      nested from (number q.network) past w.prefix.aligned.0 f.prefix.aligned.0
                      (width - p.length) (width - q.length)
                      (sym p_starts ∙ w.prefix.aligned.1) f.prefix.aligned.1 both.0 inside
                      (omega (arith, q_ends, both.1)) w.widest in
                      omega (arith, le, q_ends))
                  | inr past_it ↦ inr (inl (past_it, both.1))
                ]
            | inr beyond ↦ inr (inr beyond)
          ]
        ];
      }

  -- the widest at its place has what another one has that has its first address
  inside_widest : (from past : ℕ) (p q : Prefix A) (a : A) → IsWidest family from past p
      → Fits from past q → HasAddress number p.network q → HasAddress number a q
      → number a < from + size number width p
  inside_widest from past p q a w f at has = grind (arith, pow_pos, pow_mono)

  module _ (Q : Prefix A → Type 0) where
    -- one that has an address is taken out
    record Taken (met : A) (qs : List (Prefix A)) : Type 0 where
      one : Prefix A
      has : HasAddress number met one
      meets : Q one
      rest : List (Prefix A)
      fewer : length qs ≡ length rest + 1
      others : AllByRecursion Q rest
      either : (a : A) → SomeHasAddress number qs a
          → HasAddress number a one ⊎ SomeHasAddress number rest a

    take_out : (met : A) (qs : List (Prefix A)) → AllByRecursion Q qs → SomeHasAddress number qs met
        → Taken met qs
    take_out met [] all none = absurd none
    take_out met (q ∷ qs) all (inl here) =
        record {
          one = q;
          has = here;
          meets = all.0;
          rest = qs;
          fewer = omega arith;
          others = all.1;
          either = λ a some. some;
        }
    take_out met (q ∷ qs) all (inr later) =
        let t = take_out met qs all.1 later in
        let fewer = t.fewer in
        record {
          one = t.one;
          has = t.has;
          meets = t.meets;
          rest = q ∷ t.rest;
          fewer = omega arith;
          others = (all.0, t.others);
          either = λ a some. elim some [
            | inl first ↦ inr (inl first)
            | inr after ↦ elim (t.either a after) [ inl it ↦ inl it | inr more ↦ inr (inr more) ]
          ];
        }

  -- prefixes of another list are left that have what is beyond the widest ones
  pub record Left (R : Prefix A → Type 0) (past : ℕ) (ps qs : List (Prefix A)) : Type 0 where
    pub rest : List (Prefix A)
    pub fewer : length ps + length rest ≤ length qs
    pub others : AllByRecursion R rest
    pub still : (a : A) → past ≤ number a → SomeHasAddress number qs a
        → SomeHasAddress number rest a

  module _ (R : Prefix A → Type 0) (past : ℕ) where
    abbrev Among : ℕ → Prefix A → Type 0
    Among from q = Fits from past q × R q

    all_further : (from : ℕ) (p : Prefix A) → IsWidest family from past p
        → (qs : List (Prefix A)) → AllByRecursion (Among from) qs
        → AllByRecursion (Among (from + size number width p)) qs
    all_further from p w [] all = all
    all_further from p w (q ∷ qs) all = search (rules, further, all_further from p w qs all.1)

    all_right : (from : ℕ) (qs : List (Prefix A)) → AllByRecursion (Among from) qs
        → AllByRecursion R qs
    all_right from [] all = all
    all_right from (q ∷ qs) all = (all.0.1, all_right from qs all.1)

    pub fewest : (from : ℕ) (ps : List (Prefix A)) → AreWidest family from past ps
        → (qs : List (Prefix A)) → AllByRecursion (Among from) qs
        → ((a : A) → from ≤ number a → number a < past → SomeHasAddress number qs a)
        → Left R past ps qs
    fewest from [] tiles qs all covers = grind (arith, all_right)
    fewest from (p ∷ ps) tiles qs all covers =
        let w = tiles.0 in
        let starts = w.starts in
        let p_inside = w.inside in
        let positive = pow_pos (width - p.length) in
        let t = take_out (Among from) p.network qs all
        (covers p.network (omega (arith, starts)) (omega (arith, starts, positive, p_inside))) in
        let t_fewer = t.fewer in
        let left = fewest (from + size number width p) ps tiles.1 t.rest
        (all_further from p w t.rest t.others)
        (λ a low high. elim (t.either a (covers a (omega (arith, low)) high)) [
          | inl it ↦
              let h : number a < from + size number width p =
              inside_widest from past p t.one a w t.meets.0 t.has it in
              absurd (omega (arith, h, low))
          | inr more ↦ more
        ]) in
        let left_fewer = left.fewer in
        record {
          rest = left.rest;
          fewer = omega arith;
          others = left.others;
          still = λ a beyond some. elim (t.either a some) [
            | inl it ↦
                let h : number a < from + size number width p =
                inside_widest from past p t.one a w t.meets.0 t.has it in
                absurd (omega (arith, h, beyond, p_inside))
            | inr more ↦ left.still a beyond more
          ];
        }
