-- Parts that share out a range are its pieces.
use Rattle.range_runs.proofs.Common.{arith, common_steps, ◌≡◌, sym, subst, ap, ◌∙◌, ℕ, ◌<◌, length, get_or, Option, Some, None, Bool, List, [], ◌∷◌, ◌++◌, ◌⊎◌, inl, inr, map, if◌then◌else◌, Every, Equal, IsEquivalence, tied_back, KeyOrder, IsLawful, start_position, end_position, position_cmp, position_total, Position, equal_then_equal, AnyRange, IsKeyRange, Le, Lt, Any, le_refl, lt_le, eq_ge, le_trans, lt_not_le, not_lt, cases, both, le_lt_trans, lt_le_trans, every_at, every_weaker, line_of, common, later_is, earlier_is, lower, upper, LiesBefore, Item, EachNext, later, earlier, IsCommonPart, LiesIn, IsFreePart, IsPiece, ArePieces, Overlap}
use Rattle.range_algebra.specs.RangeOrder.{range_cmp}
use Rattle.range_runs.proofs.Chains.{follows_above, chain_tail}
use Rattle.range_algebra.proofs.Commons.{later_over as starts_over, earlier_under as ends_under}
use Rattle.range_runs.proofs.CoveredPlaces.{chained_items_have_places}
use Rattle.range_runs.proofs.Windows.{every_both}
use Rattle.range_runs.proofs.Extents.{past_le, end_le}
use Rattle.range_runs.proofs.Forms.{Known, Chained, before_is, nonempty_good}

pub item_at : {X : Type 0} (P : X → Type 0) (items : List X) (k : ℕ) (x : X) → Every P items
    → k < length items → x ≡ get_or items k x → P x
item_at P items k x all within read = subst P (sym read) (every_at P items k x all within)

-- some item is such and is used so
pub any_use : {X R : Type 0} (P Q : X → Type 0) (xs : List X) → Any P xs → Every Q xs
    → ((x : X) → P x → Q x → R) → R
any_use P Q [] h e f = absurd h
any_use P Q (x ∷ xs) (inl h) e f = f x h e.0
any_use P Q (x ∷ xs) (inr h) e f = any_use P Q xs h e.1 f

pub any_with : {X : Type 0} (P Q R : X → Type 0) (xs : List X) → Any P xs → Every Q xs
    → ((x : X) → P x → Q x → R x) → Any R xs
any_with P Q R [] h e f = h
any_with P Q R (x ∷ xs) (inl h) e f = inl (f x h e.0)
any_with P Q R (x ∷ xs) (inr h) e f = inr (any_with P Q R xs h e.1 f)

pub any_over : {X : Type 0} (P R : X → Type 0) (xs : List X) → ((x : X) → P x → R x) → Any P xs
    → Any R xs
any_over P R [] f h = h
any_over P R (x ∷ xs) f (inl h) = inl (f x h)
any_over P R (x ∷ xs) f (inr h) = inr (any_over P R xs f h)

pub every_with : {X : Type 0} (P Q R : X → Type 0) (xs : List X) → Every P xs → Every Q xs
    → ((x : X) → P x → Q x → R x) → Every R xs
every_with P Q R [] h e f = tt
every_with P Q R (x ∷ xs) h e f = (f x h.0 e.0, every_with P Q R xs h.1 e.1 f)

-- what holds of the images of each
pub every_unmap : {X Y : Type 0} (f : X → Y) (P : Y → Type 0) (xs : List X) → Every P (map f xs)
    → Every (λ x. P (f x)) xs
every_unmap f P [] h = tt
every_unmap f P (x ∷ xs) h = (h.0, every_unmap f P xs h.1)

pub any_unmap : {X Y : Type 0} (f : X → Y) (P : Y → Type 0) (xs : List X) → Any P (map f xs)
    → Any (λ x. P (f x)) xs
any_unmap f P [] h = h
any_unmap f P (x ∷ xs) (inl h) = inl h
any_unmap f P (x ∷ xs) (inr h) = inr (any_unmap f P xs h)

pub next_last : {X : Type 0} (S : X → X → Type 0) (xs : List X) (y : X) → EachNext S xs
    → Every (λ x. S x y) xs → EachNext S (xs ++ y ∷ [])
next_last S [] y h e = (tt, tt)
next_last S (x ∷ []) y h e = (e.0, (tt, tt))
next_last S (x ∷ z ∷ zs) y h e = (h.0, next_last S (z ∷ zs) y h.1 e.1)

pub any_end : {X : Type 0} (P : X → Type 0) (xs : List X) (y : X) → P y → Any P (xs ++ y ∷ [])
any_end P [] y h = inl h
any_end P (x ∷ xs) y h = inr (any_end P xs y h)

module _ {K : Type 0} (order : KeyOrder K) (lawful : IsLawful order) where
  abbrev pub PLe : Position K → Position K → Type 0
  PLe p q = Le (position_cmp order.cmp) p q

  abbrev pub PLt : Position K → Position K → Type 0
  PLt p q = Lt (position_cmp order.cmp) p q

  abbrev pub Lo : AnyRange K → Position K
  Lo r = lower order r

  abbrev pub Hi : AnyRange K → Position K
  Hi r = upper order r

  -- each lies before all that follow
  abbrev pub Rises : {W : Type 0} → List (Item (AnyRange K) W) → Type 0
  Rises [] = Unit {0}
  Rises (p ∷ rest) = Every (λ q. PLe (Hi p.key) (Lo q.key)) rest × Rises rest

  pub rises_right : {W : Type 0} (xs ys : List (Item (AnyRange K) W)) → Rises (xs ++ ys) → Rises ys
  rises_right [] ys h = h
  rises_right (x ∷ xs) ys h = rises_right xs ys h.1

  pub later_over : (p q : Position K) → PLe p (later order p q) × PLe q (later order p q)
  later_over p q = grind (arith, common_steps, le_refl, later)

  pub earlier_under : (p q : Position K) → PLe (earlier order p q) p × PLe (earlier order p q) q
  earlier_under p q = grind (arith, common_steps, le_refl, earlier)

  pub either_choice_holds : (P : Position K → Type 0) (b : Bool) (p q : Position K) → P p → P q
      → P (if b then p else q)
  either_choice_holds P test p q h k = grind (arith, common_steps)

  -- the common part of two ranges starts at the later start and ends at the earlier end
  pub common_is : (r i : AnyRange K) → IsCommonPart order r i (common order i r)
  common_is r i = grind (arith, common_steps, starts_over, ends_under, later_over, earlier_under, both, later_is, later, either_choice_holds, earlier_is, earlier)

  -- a common part lies in both
  pub common_within : (r i part : AnyRange K) → IsKeyRange order r → IsKeyRange order i
      → IsKeyRange order part → IsCommonPart order r i part
      → PLe (Lo r) (Lo part) × PLe (Lo i) (Lo part) × PLe (Hi part) (Hi r) × PLe (Hi part) (Hi i)
  common_within r i part known known' known'' h =
      let latest = later_over (start_position order r.start) (start_position order i.start) in
      let first = earlier_under (end_position order r.end) (end_position order i.end) in
      let at = eq_ge lawful _ _ h.starts in
      (grind (arith, common_steps, le_trans, past_le))

  lies_places : (r s : AnyRange K) → IsKeyRange order r → IsKeyRange order s → LiesIn order r s
      → PLe (Lo s) (Lo r) × PLe (Hi r) (Hi s)
  lies_places r s known known' h = grind (arith, common_steps, past_le)

  pub lies_in : (r s : AnyRange K) → IsKeyRange order r → IsKeyRange order s → PLe (Lo s) (Lo r)
      → PLe (Hi r) (Hi s) → LiesIn order r s
  lies_in r s known known' h k = grind (arith, common_steps, end_le)

  -- ranges that do not meet lie one before the other
  apart_of : (i r : AnyRange K) → IsKeyRange order i → IsKeyRange order r
      → (Overlap order i r → ⊥) → PLe (Hi i) (Lo r) ⊎ PLe (Hi r) (Lo i)
  apart_of i r known known' none =
      let first = before_is order lawful i.end r.start known.1 known'.0 in
      let other = before_is order lawful r.end i.start known'.1 known.0 in
      elim (cases lawful (Lo r) (Hi i)) [
        | inr le ↦ inl le
        | inl l ↦ inr (not_lt lawful _ _ (λ m. none (grind (arith, common_steps, lt_not_le))))
      ]

  module _ {V : Type 0} (items : List (Item (AnyRange K) V)) (r : AnyRange K) where
    abbrev pub IsFull : Item (AnyRange K) V → Type 0
    IsFull i = IsKeyRange order i.key × PLt (Lo i.key) (Hi i.key)

    -- an open part of the range: it meets no item, and is bounded by the range or by items
    pub record IsOpenPart (key : AnyRange K) : Type 0 where
      pub free : Every (λ i. PLe (Hi i.key) (Lo key) ⊎ PLe (Hi key) (Lo i.key)) items
      pub left : PLe (Lo key) (Lo r) ⊎ Any
          (λ i. PLe (Lo key) (Hi i.key) × PLe (Hi i.key) (Lo key)) items
      pub right : PLe (Hi r) (Hi key) ⊎ Any
          (λ i. PLe (Hi key) (Lo i.key) × PLe (Lo i.key) (Hi key)) items

    -- what the items bind a part of the range to
    abbrev pub IsRight : AnyRange K → Option V → Type 0
    IsRight key (Some v) = Any (λ i. IsCommonPart order r i.key key × (i.value ≡ v)) items
    IsRight key None = IsOpenPart key

    -- a nonempty part between the places of the range
    abbrev pub IsInside : AnyRange K → Type 0
    IsInside key =
        IsKeyRange order key × PLe (Lo r) (Lo key) × PLt (Lo key) (Hi key) × PLe (Hi key) (Hi r)

    -- parts that share out the range, each before the next
    pub record AreCut (pieces : List (Item (AnyRange K) (Option V))) : Type 0 where
      pub inside : Every (λ p. IsInside p.key) pieces
      pub right : Every (λ p. IsRight p.key p.value) pieces
      pub rising : Rises pieces
      pub covered : (m : Position K) → PLe (Lo r) m → PLt m (Hi r)
          → Any (λ p. PLe (Lo p.key) m × PLt m (Hi p.key)) pieces

    module _ (known_r : IsKeyRange order r) where
      module _ (full : Every IsFull items) where
        free_part : (key : AnyRange K) → IsInside key → IsOpenPart key
            → IsFreePart order items r key
        free_part key inside h = record {
          known = inside.0;
          nonempty = (nonempty_good order lawful key inside.0).1 inside.2;
          within = lies_in key r inside.0 known_r inside.1 inside.3;
          free = every_with _ _ _ items h.free full (λ i a f meets. (grind (arith, common_steps, before_is)));
        }

        pub free_apart : (key : AnyRange K) → IsFreePart order items r key
            → Every (λ i. IsFull i × (PLe (Hi i.key) (Lo key) ⊎ PLe (Hi key) (Lo i.key))) items
        free_apart key h =
            every_with _ _ _ items h.free full (λ i n f. (f, apart_of i.key key f.0 h.known n))

        pub free_inside : (key : AnyRange K) → IsFreePart order items r key → IsInside key
        free_inside key h = grind (arith, common_steps, lies_places, nonempty_good)

        -- no free part begins before an open one that it meets, or ends after it
        starts_after : (key other : AnyRange K) → IsOpenPart key → PLe (Lo r) (Lo other)
            → Every (λ i. IsFull i × (PLe (Hi i.key) (Lo other) ⊎ PLe (Hi other) (Lo i.key))) items
            → PLt (Lo key) (Hi other) → PLe (Lo key) (Lo other)
        starts_after key other h from apart meets = elim h.left [
          | inl le ↦ le_trans lawful _ _ _ le from
          | inr bounded ↦ any_use _ _ items bounded apart (λ i at a. (grind (arith, common_steps, le_trans, lt_le, lt_not_le)))
        ]

        ends_before : (key other : AnyRange K) → IsOpenPart key → PLe (Hi other) (Hi r)
            → Every (λ i. IsFull i × (PLe (Hi i.key) (Lo other) ⊎ PLe (Hi other) (Lo i.key))) items
            → PLt (Lo other) (Hi key) → PLe (Hi other) (Hi key)
        ends_before key other h upto apart meets = elim h.right [
          | inl le ↦ le_trans lawful _ _ _ upto le
          | inr bounded ↦ any_use _ _ items bounded apart (λ i at a. (grind (arith, common_steps, le_trans, lt_le, lt_not_le)))
        ]

        -- what is right by places is a piece
        a_piece : (key : AnyRange K) (value : Option V) → IsInside key → IsRight key value
            → IsPiece order items r key value
        a_piece key (Some v) inside h = ((nonempty_good order lawful key inside.0).1 inside.2, h)
        a_piece key None inside h = (
          free_part key inside h,
          λ other free wide.
              let others = free_inside other free in
              let apart = free_apart other free in
              let over = lies_places key other inside.0 free.known wide in
              lies_in other key free.known inside.0
              (starts_after key other h others.1 apart (lt_le_trans lawful _ _ _ inside.2 over.1))
              (ends_before key other h others.3 apart (le_lt_trans lawful _ _ _ over.0 inside.2)),
        )

        same_common : (i key part : AnyRange K) → IsCommonPart order r i key
            → IsCommonPart order r i part → range_cmp order key part ≡ Equal
        same_common i key part h k =
            let cmp = position_cmp order.cmp in
            let total = position_total order.cmp lawful.total in
            let s = later order (start_position order r.start) (start_position order i.start) in
            let e = earlier order (end_position order r.end) (end_position order i.end) in
            equal_then_equal (cmp (start_position order key.start)
            (start_position order part.start)) (cmp (end_position order key.end)
            (end_position order part.end)) (total.congr (start_position order key.start) s
            (start_position order part.start) h.starts ∙ tied_back total
            (start_position order part.start) s k.starts) (total.congr (end_position order key.end)
            e (end_position order part.end) h.ends ∙ tied_back total (end_position order part.end) e
            k.ends)

        -- the item that a place lies in
        module _ (same : V → V → Bool) (equal : IsEquivalence same) where
          abbrev Holding : Position K → Item (AnyRange K) V → Type 0
          Holding p i = PLe (Lo i.key) p × PLt p (Hi i.key)

          both_held : (p : Position K) (P Q : Item (AnyRange K) V → Type 0)
              (xs : List (Item (AnyRange K) V)) → Chained order lawful same equal xs
              → Any (λ i. P i × Holding p i) xs → Any (λ i. Q i × Holding p i) xs
              → Any (λ i. P i × Q i) xs
          both_held p P Q [] chain h k = h
          both_held p P Q (x ∷ xs) chain (inl h) (inl k) = inl (h.0, k.0)
          both_held p P Q (x ∷ xs) chain (inr h) (inr k) = grind (arith, common_steps, chain_tail, both_held p P Q xs (chain_tail (line_of order lawful same equal) x xs chain.1) h k)
          both_held p P Q (x ∷ xs) chain (inl h) (inr k) =
              any_use _ _ xs k (follows_above (line_of order lawful same equal) x xs chain.1)
              (λ i g le. absurd (lt_not_le lawful _ _ h.1.1 (le_trans lawful _ _ _ le g.1.0)))
          both_held p P Q (x ∷ xs) chain (inr h) (inl k) =
              any_use _ _ xs h (follows_above (line_of order lawful same equal) x xs chain.1)
              (λ i g le. absurd (lt_not_le lawful _ _ k.1.1 (le_trans lawful _ _ _ le g.1.0)))

          common_held : (p : Position K) (key : AnyRange K) (v : V) → IsKeyRange order key
              → Any (λ i. IsCommonPart order r i.key key × (i.value ≡ v)) items → PLe (Lo key) p
              → PLt p (Hi key)
              → Any (λ i. (IsCommonPart order r i.key key × (i.value ≡ v)) × Holding p i) items
          common_held p key v known h from upto = grind (arith, common_steps, any_with, common_within, le_trans, lt_le_trans)

          pub common_place_is_not_clear : (p : Position K) (key clear : AnyRange K) (v : V)
              → IsKeyRange order key
              → Any (λ i. IsCommonPart order r i.key key × (i.value ≡ v)) items → PLe (Lo key) p
              → PLt p (Hi key)
              → Every (λ i. PLe (Hi i.key) (Lo clear) ⊎ PLe (Hi clear) (Lo i.key)) items
              → PLe (Lo clear) p → PLt p (Hi clear) → ⊥
          common_place_is_not_clear p key clear v known h from upto free from' upto' =
              any_use _ _ items (common_held p key v known h from upto) free (λ i g a. elim a [
                | inl le ↦ lt_not_le lawful _ _ g.1.1 (le_trans lawful _ _ _ le from')
                | inr le ↦ lt_not_le lawful _ _ upto' (le_trans lawful _ _ _ le g.1.0)
              ])

          -- a piece whose start lies in a part that is right is that part
          same_piece : (key part : AnyRange K) (value binding : Option V)
              → Chained order lawful same equal items → IsInside key → IsRight key value
              → IsKeyRange order part → IsPiece order items r part binding
              → PLe (Lo key) (Lo part) → PLt (Lo part) (Hi key)
              → (range_cmp order key part ≡ Equal) × (value ≡ binding)
          same_piece key part (Some w) (Some v) chain inside h known piece from upto =
              let good = (nonempty_good order lawful part known).0 piece.0 in
              let held = common_held (Lo part) key w inside.0 h from upto in
              let other =
              common_held (Lo part) part v known piece.1 (le_refl lawful (Lo part)) good in
              any_use _ _ items (both_held (Lo part) _ _ items chain held other) full
              (λ i g f. (same_common i.key key part g.0.0 g.1.0, ap Some (sym g.0.1 ∙ g.1.1)))
          same_piece key part (Some w) None chain inside h known piece from upto =
              let others = free_inside part piece.0 in
              absurd (common_place_is_not_clear (Lo part) key part w inside.0 h from upto
              (every_weaker _ _ items (λ i a. a.1) (free_apart part piece.0))
              (le_refl lawful (Lo part)) others.2)
          same_piece key part None (Some v) chain inside h known piece from upto =
              let good = (nonempty_good order lawful part known).0 piece.0 in
              absurd (common_place_is_not_clear (Lo part) part key v known piece.1
              (le_refl lawful (Lo part)) good h.free from upto)
          same_piece key part None None chain inside h known piece from upto = grind (arith, common_steps, free_inside, lies_in, inside, ends_before, free_apart, equal_then_equal, both, free_part)

      piece_inside : (full : Every IsFull items) (part : AnyRange K) (binding : Option V)
          → IsKeyRange order part → IsPiece order items r part binding
          → PLe (Lo r) (Lo part) × PLt (Lo part) (Hi r)
      piece_inside full part None known piece = grind (arith, common_steps, free_inside, lt_le_trans)
      piece_inside full part (Some v) known piece = any_use _ _ items piece.1 full (λ i c f.
          let within = common_within r i.key part known_r f.0 known c.0 in (grind (arith, common_steps, lt_le_trans, nonempty_good)))

      rising_apart : (pieces : List (Item (AnyRange K) (Option V)))
          → Every (λ p. IsInside p.key) pieces → Rises pieces
          → EachNext (λ p q. LiesBefore order p.key q.key) pieces
      rising_apart [] h k = tt
      rising_apart (p ∷ []) h k = (tt, tt)
      rising_apart (p ∷ q ∷ rest) h k = grind (arith, common_steps, rising_apart (q ∷ rest) h.1 k.1, before_is)

      -- such parts are the pieces of the range
      pub cut_all : (same : V → V → Bool) (equal : IsEquivalence same) (full : Every IsFull items)
          → Chained order lawful same equal items → (pieces : List (Item (AnyRange K) (Option V)))
          → AreCut pieces → ArePieces order items r pieces
      cut_all same equal full chain pieces was =
          let each = every_both _ _ pieces was.inside was.right in
          record {
            each = every_weaker _ _ pieces (λ p h. a_piece full p.key p.value h.0 h.1) each;
            rising = rising_apart pieces was.inside was.rising;
            all = λ part binding known piece.
                let at = piece_inside full part binding known piece in
                any_with _ _ _ pieces (was.covered (Lo part) at.0 at.1) each (λ p h k.
                same_piece full same equal p.key part p.value binding chain k.0 k.1 known piece
                h.0 h.1);
          }

module _ {K : Type 0} (order : KeyOrder K) (lawful : IsLawful order) {V : Type 0}
    (same : V → V → Bool) (equal : IsEquivalence same) (r : AnyRange K) where
  -- stored ranges are known, and each starts below the place where it ends
  pub all_full : (items : List (Item (AnyRange K) V)) → Known order lawful same equal items
      → Chained order lawful same equal items → Every (IsFull order lawful items r) items
  all_full items known chain =
      every_both _ _ items known (chained_items_have_places order lawful same equal items chain)
