-- Answers to the values of a list, put one after the other.
use Rattle.std.proofs.Common.{◌≡◌, sym, ◌∙◌, ◌↔◌, inl, inr, Bool, Option, None, Result, Ok, List, [], ◌∷◌, ◌++◌, append_assoc}
use Rattle.range_map.proofs.Common.{append-nil, arith, common_steps, Shared, FnReturnsAt, AllZip, IsEquivalence, Equal, Bor, KeyOrder, IsLawful, position_cmp, Position, IsRangeClone, bound_clone, range_clone, same_start, Any, Every, Holds, HoldSame, IsKeyRange, AnyRange, Item, Binds, IsBound, IsSomeOf, IsStored, item_lower, item_upper, equal_is_same, nonempty_good, binds_bound, appended, eq_le, eq_ge, le_trans, lt_le_trans, le_lt_trans}
use Rattle.range_runs.proofs.CutParts.{same_past}
use Rattle.range_map.specs.MappedValues.{AnswersItem, AreAnswered, AreMapped, IsAnsweredEach, IsMappedAt}
use Rattle.range_bulk.proofs.JoinedItems.{IsBuilt, RisesFrom, built_more, first_alone, stored_rises}

zip_more : {X Y : Type 0} (R : X → Y → Type 0) (xs : List X) (ys : List Y) (x : X) (y : Y)
    → AllZip R xs ys → R x y → AllZip R (xs ++ x ∷ []) (ys ++ y ∷ [])
zip_more R [] [] x y h r = (r, tt)
zip_more R (a ∷ xs) (b ∷ ys) x y h r = (h.0, zip_more R xs ys x y h.1 r)
zip_more R xs ys x y h r = absurd h

zip_first : {X Y : Type 0} (P : X → Y → Type 0) (Q : X → Type 0) (xs : List X) (ys : List Y)
    → AllZip P xs ys → ((x : X) (y : Y) → P x y → Q x) → Every Q xs
zip_first P Q [] [] h to = tt
zip_first P Q (x ∷ xs) (y ∷ ys) h to = (to x y h.0, zip_first P Q xs ys h.1 to)
zip_first P Q xs ys h to = absurd h

-- the first of what is left is an item of the list
pub first_left : {X : Type 0} (P : X → Type 0) (done rest items : List X) (x : X)
    → done ++ x ∷ rest ≡ items → P x → Any P items
first_left P done rest items x parted h = rw (← parted) (there done)
  where
    there : (front : List _) → Any P (front ++ x ∷ rest)
    there [] = inl h
    there (y ∷ front) = inr (there front)

module _ {K : Type 0} (order : KeyOrder K) {F V W E : Type 0}
    (calls : Shared F (Bor V × Unit {0}) (Result W E)) (f : F) (same : W → W → Bool)
    (items : List (Item (AnyRange K) V)) where
  -- the answers so far, and what is left to be asked for
  pub record IsMappedUpTo (left : List (Item (AnyRange K) V))
      (built : List (Item (AnyRange K) W)) : Type 0 where
    pub done : List (Item (AnyRange K) V)
    pub answers : List (Item (AnyRange K) W)
    pub place : Position K
    pub parted : done ++ left ≡ items
    pub given : AreAnswered order calls f done answers
    pub form : IsBuilt order same place answers built
    pub rises : RisesFrom order place left

  -- the closure may answer so to the next value, and without an error to those so far
  pub next_answered : {i : Item (AnyRange K) V} {left : List (Item (AnyRange K) V)}
      {built : List (Item (AnyRange K) W)} {answer : Result W E} → IsMappedUpTo (i ∷ left) built
      → FnReturnsAt calls f i.value answer → AnswersItem calls f items answer
  next_answered {i} {left} was says = record {
    front = was.done;
    item = i;
    rest = left;
    all = sym was.parted;
    given =
        grind (arith, common_steps, zip_first);
    says = says;
  }

  -- where nothing is left, each item has its answer
  pub all_answered : {left : List (Item (AnyRange K) V)} {built : List (Item (AnyRange K) W)}
      → left ≡ [] → IsMappedUpTo left built → IsAnsweredEach order calls f same items built
  all_answered none was =
      record {
        answers = was.answers;
        given = rw (← was.parted, none, append-nil was.done) was.given;
        bound = was.form.bound;
      }

  module _ (lawful : IsLawful order) (equal : IsEquivalence same) where
    -- one answer more
    pub mapped_more : (i : Item (AnyRange K) V) (left : List (Item (AnyRange K) V))
        (built : List (Item (AnyRange K) W)) (j : Item (AnyRange K) W) (is_clone : K → K → Type 0)
        → ((a b : K) → is_clone a b → order.cmp a b ≡ Equal)
        → IsRangeClone is_clone i.key j.key → IsKeyRange order j.key
        → FnReturnsAt calls f i.value (Ok j.value) → IsMappedUpTo (i ∷ left) built
        → IsMappedUpTo left (appended order same built (j ∷ []))
    mapped_more i left built j is_clone keys clone known given was =
        let cmp = position_cmp order.cmp in
        let hi = item_upper order i in
        let starts : cmp (item_lower order i) (item_lower order j) ≡ Equal =
        same_start order lawful i.key.start j.key.start
        (bound_clone order lawful is_clone keys i.key.start j.key.start clone.0) in
        let ends : cmp hi (item_upper order j) ≡ Equal =
        same_past order lawful i.key.end j.key.end
        (bound_clone order lawful is_clone keys i.key.end j.key.end clone.1) in
        let good =
        lt_le_trans lawful _ _ _ (le_lt_trans lawful _ _ _ (eq_ge lawful _ _ starts)
        ((nonempty_good order lawful i.key was.rises.0).0 was.rises.1)) (eq_le lawful _ _ ends) in
        record {
          done = was.done ++ i ∷ [];
          answers = was.answers ++ j ∷ [];
          place = hi;
          parted = append_assoc was.done (i ∷ []) left ∙ was.parted;
          given =
              zip_more (λ x a. HoldSame order x.key a.key
              × FnReturnsAt calls f x.value (Ok a.value)) was.done was.answers i j was.given (
                equal_is_same order lawful i.key j.key
                    (range_clone order lawful is_clone keys i.key j.key clone),
                given,
              );
          form =
              built_more lawful equal was.place hi was.answers built j known
              ((nonempty_good order lawful j.key known).1 good)
              (le_trans lawful _ _ _ was.rises.2 (eq_le lawful _ _ starts)) (eq_ge lawful _ _ ends)
              was.form;
          rises = was.rises.3;
        }

-- from the answers to the keys
module _ {K : Type 0} {order : KeyOrder K} (lawful : IsLawful order) {F V W E : Type 0}
    (calls : Shared F (Bor V × Unit {0}) (Result W E)) (f : F) (same : W → W → Bool) where
  held_back : (items : List (Item (AnyRange K) V)) (answers : List (Item (AnyRange K) W)) (k : K)
      → order.is_key k → AreAnswered order calls f items answers → IsBound order answers k
      → IsBound order items k
  held_back [] [] k key given bound = bound
  held_back (i ∷ items) (a ∷ answers) k key given either =
      grind (arith, common_steps, held_back items answers k key given.1)
  held_back items answers k key given bound = absurd given

  -- the answer of the one item that holds the key binds it
  answer_alone : (a : Item (AnyRange K) W) (answers : List (Item (AnyRange K) W)) (k : K)
      → Holds order a.key k → ¬ IsBound order answers k → (b : Option W)
      → Binds order same (a ∷ answers) k b ↔ IsSomeOf order same a.value b
  answer_alone a answers k held alone option = grind (arith, common_steps, binds_bound)

  answer_later : (a : Item (AnyRange K) W) (answers : List (Item (AnyRange K) W)) (k : K)
      → ¬ Holds order a.key k → (b : Option W)
      → Binds order same (a ∷ answers) k b ↔ Binds order same answers k b
  answer_later a answers k out option = grind (arith, common_steps)

  mapped_at : (m : Position K) (items : List (Item (AnyRange K) V))
      (answers : List (Item (AnyRange K) W)) → RisesFrom order m items
      → AreAnswered order calls f items answers → (k : K) → order.is_key k → IsBound order items k
      → IsMappedAt order calls f same items answers k
  mapped_at m [] answers rises given k key bound = absurd bound
  mapped_at m (i ∷ items) [] rises given k key bound = absurd given
  mapped_at m (i ∷ items) (a ∷ answers) rises given k key (inl held) =
      grind (arith, common_steps, answer_alone, first_alone, held_back)
  mapped_at m (i ∷ items) (a ∷ answers) rises given k key (inr later) =
      let at = mapped_at (item_upper order i) items answers rises.3 given.1 k key later in
      grind (arith, first_alone, answer_later)

  pub keys_mapped : {same_value : V → V → Bool} → IsEquivalence same_value
      → (items : List (Item (AnyRange K) V)) (new : List (Item (AnyRange K) W))
      → IsStored order same_value items → IsAnsweredEach order calls f same items new
      → AreMapped order calls f same items new
  keys_mapped values items new stored made =
      record {
        held = grind (arith, common_steps, mapped_at, stored_rises);
        free = λ k key free.
            (made.bound k key None).1
            (λ bound. free (held_back items made.answers k key made.given bound));
      }
