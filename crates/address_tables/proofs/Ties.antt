-- Of equal prefixes the first decides, or the last: it is the same in a table that is as short as
-- can be, and in one whose order is turned round.
use Rattle.std.proofs.Common.{◌≡◌, ℕ, ◌+◌, ◌≤◌, ◌<◌, Bool, true, false, ◌&&◌, if◌then◌else◌, nat_lt, List, [], ◌∷◌, ◌++◌, append_assoc, length, length-append, map, reverse, Option, Some, None, refl, ap, sym, ◌∙◌, arith}
use Rattle.std.proofs.lemmas.Bool.Decides.{nat_tests}
use Rattle.std.proofs.lemmas.List.{map-append, reverse-append}
use Rattle.shortest_tables.specs.Tables.{Bits, Table, holds, longer, longest, route, same, shorter, value_of}
use Rattle.address_tables.proofs.Bits.{shorter_is}

-- two prefixes of as many bits that hold one address are the same
same_prefix : (p q a : Bits) → holds p a ≡ true → holds q a ≡ true → length p ≡ length q
    → p ≡ q
same_prefix [] [] a h j e = refl
same_prefix [] (c ∷ q) a h j e = absurd (omega arith)
same_prefix (b ∷ p) [] a h j e = absurd (omega arith)
same_prefix (b ∷ p) (c ∷ q) [] h j e = cc
same_prefix (true ∷ p) (true ∷ q) (true ∷ a) h j e =
    ap (λ x. true ∷ x) (same_prefix p q a h j (omega arith))
same_prefix (false ∷ p) (false ∷ q) (false ∷ a) h j e =
    ap (λ x. false ∷ x) (same_prefix p q a h j (omega arith))
same_prefix (true ∷ p) (c ∷ q) (false ∷ a) h j e = cc
same_prefix (false ∷ p) (c ∷ q) (true ∷ a) h j e = cc
same_prefix (b ∷ p) (true ∷ q) (false ∷ a) h j e = cc
same_prefix (b ∷ p) (false ∷ q) (true ∷ a) h j e = cc

module _ {V : Type 0} where
  -- of two entries the one whose prefix is longer, or the first
  abbrev pub pick : Option (Bits × V) → Option (Bits × V) → Option (Bits × V)
  pick None found = found
  pick (Some e) found = longer e found

  -- the entry, where it holds the address
  abbrev pub own : Bits × V → Bits → Option (Bits × V)
  own e a = if holds e.0 a then Some e else None

  -- of the entries that hold the address, the last whose prefix is the longest
  abbrev pub last_longest : Table V → Bits → Option (Bits × V)
  last_longest [] a = None
  last_longest (e ∷ t) a = pick (last_longest t a) (own e a)

  abbrev pub last_route : Table V → Bits → Option V
  last_route t a = value_of (last_longest t a)

  pick_none : (found : Option (Bits × V)) → pick found None ≡ found
  pick_none None = refl
  pick_none (Some e) = refl

  -- three entries, by which of them are shorter
  three : (x y z : Bits × V) (xy yz xz : Bool) → nat_lt (length x.0) (length y.0) ≡ xy
      → nat_lt (length y.0) (length z.0) ≡ yz → nat_lt (length x.0) (length z.0) ≡ xz
      → (if xy then (if yz then Some z else Some y) else (if xz then Some z else Some x))
      ≡ (if yz then (if xz then Some z else Some x) else (if xy then Some y else Some x))
  three x y z true true true p q r = refl
  three x y z true true false p q r = absurd (grind (arith, nat_tests))
  three x y z true false true p q r = refl
  three x y z true false false p q r = refl
  three x y z false true true p q r = refl
  three x y z false true false p q r = refl
  three x y z false false true p q r = absurd (grind (arith, nat_tests))
  three x y z false false false p q r = refl

  first_two : (x y z : Bits × V) (xy : Bool)
      → pick (if xy then Some y else Some x) (Some z)
      ≡ (if xy then longer y (Some z) else longer x (Some z))
  first_two x y z true = refl
  first_two x y z false = refl

  last_two : (x y z : Bits × V) (yz : Bool)
      → longer x (if yz then Some z else Some y)
      ≡ (if yz then longer x (Some z) else longer x (Some y))
  last_two x y z true = refl
  last_two x y z false = refl

  pick_assoc : (x y z : Option (Bits × V)) → pick (pick x y) z ≡ pick x (pick y z)
  pick_assoc None y z = refl
  pick_assoc (Some x) None z = refl
  pick_assoc (Some x) (Some y) None = pick_none (longer x (Some y))
  pick_assoc (Some x) (Some y) (Some z) =
      first_two x y z (shorter x.0 y.0)
      ∙ three x y z (shorter x.0 y.0) (shorter y.0 z.0) (shorter x.0 z.0) (sym (shorter_is x.0 y.0))
      (sym (shorter_is y.0 z.0)) (sym (shorter_is x.0 z.0))
      ∙ sym (last_two x y z (shorter y.0 z.0))

  first_is : (e : Bits × V) (t : Table V) (a : Bits)
      → longest (e ∷ t) a ≡ pick (own e a) (longest t a)
  first_is e t a =
      elim (holds e.0 a) as (λ h. (if h then longer e (longest t a) else longest t a)
      ≡ pick (if h then Some e else None) (longest t a)) [ true ↦ refl | false ↦ refl ]

  longest_append : (s t : Table V) (a : Bits)
      → longest (s ++ t) a ≡ pick (longest s a) (longest t a)
  longest_append [] t a = refl
  longest_append (e ∷ s) t a =
      first_is e (s ++ t) a ∙ ap (λ x. pick (own e a) x) (longest_append s t a)
      ∙ sym (pick_assoc (own e a) (longest s a) (longest t a))
      ∙ ap (λ x. pick x (longest t a)) (sym (first_is e s a))

  -- turned round, the last of equal prefixes becomes the first
  pub turned : (t : Table V) (a : Bits) → longest (reverse t) a ≡ last_longest t a
  turned [] a = refl
  turned (e ∷ t) a =
      rw (reverse-append (e ∷ []) t) (longest_append (reverse t) (e ∷ []) a
      ∙ ap (λ x. pick x (longest (e ∷ []) a)) (turned t a)
      ∙ ap (λ x. pick (last_longest t a) x) (first_is e [] a ∙ pick_none (own e a)))

  -- an entry that another one of its prefix comes before
  longer_by : (e l d : Bits × V) (el : Bool) → length d.0 ≡ length e.0
      → nat_lt (length e.0) (length l.0) ≡ el
      → pick (if el then Some l else Some e) (Some d) ≡ (if el then Some l else Some e)
  longer_by e l d true same by =
      let not : shorter l.0 d.0 ≡ false = shorter_is l.0 d.0 ∙ grind (arith, nat_tests) in rw not refl
  longer_by e l d false same by =
      let not : shorter e.0 d.0 ≡ false = shorter_is e.0 d.0 ∙ grind (arith, nat_tests) in rw not refl

  no_longer : (e d : Bits × V) (found : Option (Bits × V)) → length d.0 ≡ length e.0
      → pick (longer e found) (Some d) ≡ longer e found
  no_longer e d None same =
      let not : shorter e.0 d.0 ≡ false = shorter_is e.0 d.0 ∙ grind (arith, nat_tests) in rw not refl
  no_longer e d (Some l) same = longer_by e l d (shorter e.0 l.0) same (sym (shorter_is e.0 l.0))

  needless : (left right : Table V) (e d : Bits × V) → d.0 ≡ e.0 → (b : Bits)
      → longest (e ∷ (left ++ d ∷ right)) b ≡ longest (e ∷ (left ++ right)) b
  needless left right e d same b =
      first_is e (left ++ d ∷ right) b
      ∙ ap (λ x. pick (own e b) x) (longest_append left (d ∷ right) b
      ∙ ap (λ x. pick (longest left b) x) (first_is d right b))
      ∙ by_first (holds e.0 b) (holds d.0 b) (ap (λ p. holds p b) same)
      ∙ ap (λ x. pick (own e b) x) (sym (longest_append left right b))
      ∙ sym (first_is e (left ++ right) b)
    where
      by_first : (he hd : Bool) → hd ≡ he
          → pick (if he then Some e else None) (pick (longest left b)
          (pick (if hd then Some d else None) (longest right b)))
          ≡ pick (if he then Some e else None) (pick (longest left b) (longest right b))
      by_first true true is =
          sym (pick_assoc (Some e) (longest left b) (longer d (longest right b)))
          ∙ sym (pick_assoc (longer e (longest left b)) (Some d) (longest right b))
          ∙ ap (λ x. pick x (longest right b))
          (no_longer e d (longest left b) (ap (λ p. length p) same))
          ∙ pick_assoc (Some e) (longest left b) (longest right b)
      by_first true false is = cc
      by_first false true is = cc
      by_first false false is = refl

module _ {X V : Type 0} (entry : X → Bits × V) where
  -- the longest entry is one of the table, and holds the address
  record IsIn (t : List X) (d : Bits × V) (a : Bits) : Type 0 where
    left : List X
    one : X
    right : List X
    split : t ≡ left ++ one ∷ right
    is : entry one ≡ d
    has : holds d.0 a ≡ true

  is_in : (t : List X) (d : Bits × V) (a : Bits) → longest (map entry t) a ≡ Some d → IsIn t d a
  is_in [] d a is = cc
  is_in (e ∷ t) d a is =
      by_first (λ q. is_in t d a q) (holds (entry e).0 a) (longest (map entry t) a) refl refl
      (sym (first_is (entry e) (map entry t) a) ∙ is)
    where
      later : IsIn t d a → IsIn (e ∷ t) d a
      later there =
          record {
            left = e ∷ there.left;
            one = there.one;
            right = there.right;
            split = ap (λ x. e ∷ x) there.split;
            is = there.is;
            has = there.has;
          }

      here : holds (entry e).0 a ≡ true → entry e ≡ d → IsIn (e ∷ t) d a
      here h equal =
          record {
            left = [];
            one = e;
            right = t;
            split = refl;
            is = equal;
            has = ap (λ x. holds x.0 a) (sym equal) ∙ h;
          }

      by_length : (longest (map entry t) a ≡ Some d → IsIn t d a) → (c : Bits × V) (ec : Bool)
          → longest (map entry t) a ≡ Some c → holds (entry e).0 a ≡ true
          → (if ec then Some c else Some (entry e)) ≡ Some d → IsIn (e ∷ t) d a
      by_length again c true found h got = later (again (found ∙ got))
      by_length again c false found h got = here h cc

      by_first : (longest (map entry t) a ≡ Some d → IsIn t d a)
          → (h : Bool) (found : Option (Bits × V)) → holds (entry e).0 a ≡ h
          → longest (map entry t) a ≡ found
          → pick (if h then Some (entry e) else None) found ≡ Some d → IsIn (e ∷ t) d a
      by_first again true None holding found got = here holding cc
      by_first again true (Some c) holding found got =
          by_length again c (shorter (entry e).0 c.0) found holding got
      by_first again false found holding is got = later (again (is ∙ got))

  module _ (IsAddress : Bits → Type 0) where
    -- no table that routes these addresses alike is shorter
    abbrev pub IsFewest : List X → Type 0
    IsFewest t = (others : List X)
        → ((a : Bits) → IsAddress a → route (map entry others) a ≡ route (map entry t) a)
        → length t ≤ length others

    -- without an entry that another one of its prefix comes before
    without : (front left right : List X) (e one : X) → (entry one).0 ≡ (entry e).0 → (b : Bits)
        → longest (map entry (front ++ e ∷ (left ++ right))) b
        ≡ longest (map entry (front ++ e ∷ (left ++ one ∷ right))) b
    without front left right e one equal b =
        rw (
          map-append entry front (e ∷ (left ++ right)),
          map-append entry front (e ∷ (left ++ one ∷ right)),
          map-append entry left right,
          map-append entry left (one ∷ right),
        )
        (longest_append (map entry front) (entry e ∷ (map entry left ++ map entry right)) b
        ∙ ap (λ x. pick (longest (map entry front) b) x)
        (sym (needless (map entry left) (map entry right) (entry e) (entry one) equal b))
        ∙ sym (longest_append (map entry front)
        (entry e ∷ (map entry left ++ entry one ∷ map entry right)) b))

    no_equals : (front t : List X) (e : X) (d : Bits × V) (a : Bits)
        → IsFewest (front ++ e ∷ t) → longest (map entry t) a ≡ Some d
        → holds (entry e).0 a ≡ true → length d.0 ≡ length (entry e).0 → ⊥
    no_equals front t e d a fewest found has equal =
        let at = is_in t d a found in
        let one_is = ap (λ x. x.0) at.is in
        let prefixes = same_prefix d.0 (entry e).0 a at.has has equal in
        let all : front ++ e ∷ t ≡ front ++ e ∷ (at.left ++ at.one ∷ at.right) =
        ap (λ x. front ++ e ∷ x) at.split in
        let few = fewest (front ++ e ∷ (at.left ++ at.right))
        (λ b is. ap (λ x. value_of x) (without front at.left at.right e at.one (one_is ∙ prefixes) b)
        ∙ ap (λ x. route (map entry x) b) (sym all)) in
        let split = ap (λ x. length x) all in
        omega (arith, few, split, length-append {A = X})

    agree : (front t : List X) → IsFewest (front ++ t) → (a : Bits)
        → last_longest (map entry t) a ≡ longest (map entry t) a
    agree front [] fewest a = refl
    agree front (e ∷ t) fewest a =
        let again = agree (front ++ e ∷ []) t (rw append_assoc fewest) a in
        ap (λ x. pick x (own (entry e) a)) again
        ∙ by_first (holds (entry e).0 a) (longest (map entry t) a) refl refl
        ∙ sym (first_is (entry e) (map entry t) a)
      where
        by_length : (d : Bits × V) (de ed : Bool) → nat_lt (length d.0) (length (entry e).0) ≡ de
            → nat_lt (length (entry e).0) (length d.0) ≡ ed → longest (map entry t) a ≡ Some d
            → holds (entry e).0 a ≡ true
            → (if de then Some (entry e) else Some d) ≡ (if ed then Some d else Some (entry e))
        by_length d true true p q found has = absurd (grind (arith, nat_tests))
        by_length d true false p q found has = refl
        by_length d false true p q found has = refl
        by_length d false false p q found has =
            absurd (no_equals front t e d a fewest found has (grind (arith, nat_tests)))

        by_first : (h : Bool) (found : Option (Bits × V)) → holds (entry e).0 a ≡ h
            → longest (map entry t) a ≡ found
            → pick found (if h then Some (entry e) else None)
            ≡ pick (if h then Some (entry e) else None) found
        by_first true None has is = refl
        by_first true (Some d) has is =
            by_length d (shorter d.0 (entry e).0) (shorter (entry e).0 d.0)
            (sym (shorter_is d.0 (entry e).0)) (sym (shorter_is (entry e).0 d.0)) is has
        by_first false found has is = pick_none found

    -- in a table that is as short as can be it is the same which of equal prefixes decides
    pub last_or_first : (t : List X) → IsFewest t → (a : Bits)
        → last_route (map entry t) a ≡ route (map entry t) a
    last_or_first t fewest a = ap (λ x. value_of x) (agree [] t fewest a)
