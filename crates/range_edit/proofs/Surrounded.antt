-- What becomes of the one item that a range meets where it surrounds the range.
use Rattle.range_edit.proofs.Common.{AnswersPiece, AnyRange, ArePieces, Bool, Bor, Every, IsCommonPart, start_position, inl, IsConnectedTo, IsDivided, IsEquivalence, IsInserted, IsBoundOfKey, IsLawful, AreEnds, IsRemoved, IsStored, IsSurrounded, IsTrue, Item, KeyOrder, List, MayAnswer, None, Option, Overlap, PLe, PLt, ReachesAfter, ReachesBefore, Result, SameBound, Shared, Some, Window, [], ap, arith, both, common_steps, drop, end_position, every_append, every_left, every_right, false, flipped_bound, get_or, is_gt, le_lt_trans, le_refl, length, line_of, lower, lt_le, lt_le_trans, lt_trans, option_items, position_cmp, position_total, refl, subst, sym, take, tied_itself, true, upper, with_end, ℕ, ◌++◌, ◌+◌, ◌-◌, ◌<◌, ◌∙◌, ◌∷◌, ◌≡◌}
use Rattle.range_edit.specs.declared.cut.DividedItem.{DividedItem}
use Rattle.range_edit.specs.declared.reach.Ends.{Ends}
use Rattle.range_runs.proofs.RangePieces.{IsFull, all_full, cut_all, earlier_under, either_choice_holds, every_with, item_at, later_over}
use Rattle.range_runs.proofs.ItemPlaces.{listed_at}
use Rattle.range_edit.proofs.RangeSides.{inserted, removed}
use Rattle.range_edit.proofs.SewnSides.{first_reaches, last_starts, left_side_cut, left_side_joined, own_stored, own_within, right_side_cut, right_side_joined}
use Rattle.range_runs.proofs.Tests.{not_both}
use Rattle.range_runs.proofs.Forms.{Chained, stored_chain, nonempty_good}
use Rattle.range_edit.proofs.ApartRanges.{apart_not}
use Rattle.range_runs.proofs.Chains.{chain_right, chain_before, follows_above}
use Rattle.range_runs.proofs.CoveredPlaces.{overlap_is}
use Rattle.range_runs.proofs.Extents.{end_le}
use Rattle.range_runs.proofs.Overlaps.{any_at}
use Rattle.range_edit.proofs.BoundEdits.{standing_item_splits_list}

module _ {K : Type 0} {order : KeyOrder K} {V : Type 0} {same : V → V → Bool} {P : Type 0}
    {is_good : P → Type 0} {rank : P → ℕ} {items : List (Item (AnyRange K) V)} {r : AnyRange K}
    {place : ℕ} where
  -- nothing reaches out of the range where the window is empty
  pub none_reach : {ends : Ends P} → AreEnds order same is_good rank items r ends place
      → ends.window.count ≡ 0 → (ends.first ≡ None) × (ends.last ≡ None)
  none_reach {ends} found none = grind (arith, common_steps)

module _ {K : Type 0} {order : KeyOrder K} (lawful : IsLawful order) {V : Type 0}
    {same : V → V → Bool} (equal : IsEquivalence same) {P : Type 0} {is_good : P → Type 0}
    {rank : P → ℕ} {items : List (Item (AnyRange K) V)} {r : AnyRange K} {w : Window P} {place : ℕ}
    {p : P} (within : IsSurrounded order same is_good rank items r w place p)
    (x : Item (AnyRange K) V) (read : x ≡ get_or items (rank p) x) where
  here : x ≡ get_or items place x
  here = read ∙ ap (λ n. get_or items n x) within.here

  next : place + w.count ≡ place + 1
  next = ap (λ n. place + n) within.one

  here_end : x ≡ get_or items (place + w.count - 1) x
  here_end = grind (arith, common_steps, next, here)

  some : 0 < w.count
  some = omega (arith, within.one)

  within_list : place < length items
  within_list = omega (arith, within.window.in_range, some)

  before : ReachesBefore order is_good rank items r place w.count (Some p)
  before = (within.good, within.here, some, within.starts)

  after : ReachesAfter order is_good rank items r place w.count (Some p)
  after = grind (arith, common_steps, next, some)

  -- it has an equal value: nothing changes
  pub stands : (v : V) → same x.value v ≡ true → IsInserted order same items items r v
  stands v values =
      let window = within.window in
      let own : Item (AnyRange K) V = record { key = r; value = x.value } in
      let total = position_total order.cmp lawful.total in
      let stored = own_stored lawful equal x.value window.known window.nonempty in
      let inside = own_within lawful equal r x.value in
      let left = left_side_joined lawful equal window stored inside (Some p) own [] refl before place
      refl within_list x here (tied_itself total (lower order r)) (lt_le lawful _ _
      (within.starts x here)) (first_reaches lawful equal window x here some) (equal.refl x.value) in
      let right = right_side_joined lawful equal window stored inside left (Some p) [] own refl after
      place (sym next) within_list x here (tied_itself total (upper order r))
      (last_starts lawful equal window x here_end some) (within.ends x here) (equal.refl x.value) in
      inserted lawful equal window left right items (standing_item_splits_list items place (place + 1) x
      within_list here refl) v x.value refl values (λ e. absurd (omega (arith, within.one, e)))

  -- the range is cut out of it: what the copies are, and the list with the parts
  module _ (parts : DividedItem K V)
      (end_is : IsBoundOfKey order parts.end × SameBound order (flipped_bound r.start) parts.end)
      (start_is : IsBoundOfKey order parts.start × SameBound order (flipped_bound r.end)
      parts.start) (alike : (d : Item (AnyRange K) V) → IsTrue (same (get_or items (rank p) d).value
      parts.value)) (others new : List (Item (AnyRange K) V)) (at : ℕ) (same_list : others ≡ items)
      (same_rank : at ≡ rank p) where
    abbrev front : Item (AnyRange K) V
    front = with_end x parts.end

    abbrev behind : Item (AnyRange K) V
    behind = record { key = record { start = parts.start; end = x.key.end }; value = parts.value }

    copied : same parts.value x.value ≡ true
    copied = equal.symm parts.value x.value ∙ rw (← read) at (alike x)

    list_is : (middle : Option (Item (AnyRange K) V)) → IsDivided others new at parts middle
        → new ≡ take place items ++ option_items (Some front) ++ option_items middle
        ++ option_items (Some behind) ++ drop (place + w.count) items
    list_is middle divided = grind (arith, common_steps, here, next)

    pub divided_size : (middle : Option (Item (AnyRange K) V)) → IsDivided others new at parts middle
        → length new ≡ length items + 1 + length (option_items middle)
    divided_size middle divided = grind (arith, common_steps)

    -- the range is bound to another value
    pub divided_around : (v : V) → same x.value v ≡ false
        → IsDivided others new at parts (Some (record { key = r; value = v }))
        → IsInserted order same items new r v
    divided_around v differs divided =
        let window = within.window in
        let own : Item (AnyRange K) V = record { key = r; value = v } in
        let stored = own_stored lawful equal v window.known window.nonempty in
        let inside = own_within lawful equal r v in
        let left = left_side_cut lawful equal window stored inside x here some
        (within.starts x here) parts.end end_is
        (λ m is le t. let item : own ≡ m = cc in not_both differs (rw (← item) at t)) in
        let right = right_side_cut lawful equal window stored inside left x here_end some
        (within.ends x here) parts.start start_is parts.value copied
        (λ m is on t. let item : own ≡ m = cc in not_both differs (rw (← item) at t)) in
        inserted lawful equal window left right new (list_is (Some own) divided) v v refl (equal.refl v)
        (λ e. refl)

    -- the range is unbound
    pub divided_alone : IsDivided others new at parts None → IsRemoved order same items new r
    divided_alone divided =
        let window = within.window in
        let nothing : IsStored order same [] = record { known = tt; nonempty = tt; rising = tt } in
        let left = left_side_cut lawful equal window nothing tt x here some (within.starts x here)
        parts.end end_is (λ m is. absurd (cc)) in
        removed lawful equal window left (right_side_cut lawful equal window nothing tt left x
        here_end some (within.ends x here) parts.start start_is parts.value copied
        (λ m is. absurd (cc))) new (list_is None divided) refl

  split : items ≡ take place items ++ x ∷ drop (place + 1) items
  split = listed_at items place x within_list here

  chain : Chained order lawful same equal items
  chain = stored_chain order lawful same equal items within.window.stored

  full : Every (IsFull order lawful items r) items
  full = all_full order lawful same equal r items within.window.stored.known chain

  good : PLt lawful (lower order r) (upper order r)
  good = (nonempty_good order lawful r within.window.known).0 within.window.nonempty

  abbrev IsAlone : Item (AnyRange K) V → Type 0
  IsAlone i = IsConnectedTo order i.key r → Overlap order i.key r

  -- no other item touches the range
  pub alone : Every (λ i. IsConnectedTo order i.key r → Overlap order i.key r) items
  alone =
      let line = line_of order lawful same equal in
      let known = within.window.known in
      let done = take place items in
      let rest = drop (place + 1) items in
      let whole = rw split at chain in
      let all = subst (λ ys. Every (IsFull order lawful items r) ys) split full in
      let own = every_right _ done (x ∷ rest) all in
      let after = follows_above line x rest (chain_right line done (x ∷ rest) whole).1 in
      let front = every_with _ _ IsAlone done (chain_before line done x rest whole)
      (every_left _ done (x ∷ rest) all) (λ i h f c. absurd ((apart_not order lawful i.key r f.0
      known f.1 good (le_lt_trans lawful _ _ _ h.0 (within.starts x here))).0 c)) in
      let behind = every_with _ _ IsAlone rest after own.1 (λ i h f c. absurd
      ((apart_not order lawful r i.key known f.0 good f.1 (lt_le_trans lawful _ _ _ (within.ends x here) h)).1 c)) in
      let around = (overlap_is order lawful x.key r own.0.0 known).1
      (lt_trans lawful _ _ _ (within.starts x here) good, lt_trans lawful _ _ _ good (within.ends x here)) in
      subst (λ ys. Every IsAlone ys) (sym split)
      (every_append IsAlone done (x ∷ rest) front ((λ c. around), behind))

  whole_common : IsCommonPart order r x.key r
  whole_common =
      let cmp = position_cmp order.cmp in
      let p = start_position order r.start in
      let q = start_position order x.key.start in
      let u = end_position order r.end in
      let v = end_position order x.key.end in
      let known_x = (item_at (IsFull order lawful items r) items place x full within_list here).0 in
      let under =
      end_le order lawful r.end x.key.end within.window.known.1 known_x.1 (lt_le lawful _ _ (within.ends x here)) in
      record {
        starts = both lawful _ _ (later_over order lawful p q).0 (either_choice_holds order lawful
            (λ y. PLe lawful y p) (is_gt (cmp p q)) p q (le_refl lawful p) (lt_le lawful _ _ (within.starts x here)));
        ends = both lawful _ _ (either_choice_holds order lawful (λ y. PLe lawful u y)
            (is_gt (cmp u v)) v u under (le_refl lawful u)) (earlier_under order lawful u v).0;
      }

  -- the whole range is the one piece
  pub only_piece : ArePieces order items r (record { key = r; value = Some x.value } ∷ [])
  only_piece = cut_all order lawful items r within.window.known same equal full chain
      (record { key = r; value = Some x.value } ∷ []) (record {
        inside = ((within.window.known, le_refl lawful _, good, le_refl lawful _), tt);
        right = (
          any_at (λ i. IsCommonPart order r i.key r × (i.value ≡ x.value)) items place x
              within_list here (whole_common, refl),
          tt,
        );
        rising = (tt, tt);
        covered = λ m from upto. inl (from, upto);
      })

  -- what the closure may answer to its value
  pub only_answered : {F E : Type 0}
      {calls : Shared F (Option (Bor V) × Unit {0}) (Result (Option V) E)} {f : F}
      {answer : Result (Option V) E} → MayAnswer calls f (Some x.value) answer
      → AnswersPiece order same calls f items r answer
  only_answered says = record {
    front = [];
    piece = record { key = r; value = Some x.value };
    rest = [];
    pieces = only_piece;
    given = tt;
    says = says;
  }
