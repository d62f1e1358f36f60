-- A list in a map's form is stored as it was read.
use Rattle.std.proofs.Common.{append_assoc, ◌≡◌, refl, ◌∙◌, inl, inr, List, [], ◌∷◌, ◌++◌, Bool, IsTrue, arith}
use Rattle.std.proofs.lemmas.List.{append-nil}
use Rattle.std.specs.Cmp.{IsEquivalence}
use Rattle.std.specs.List.{AllByRecursion as Every}
use Rattle.std.specs.declared.ops.Bound.{Bound}
use Rattle.std.specs.declared.ops.Bound.TheVariants.{Included, Excluded, Unbounded}
use Rattle.range_keys.specs.Order.{KeyOrder, IsLawful}
use Rattle.range_keys.specs.Position.{start_position, end_position}
use Rattle.range_keys.proofs.Orderings.{eq_is_equal}
use Rattle.range_algebra.specs.declared.any.AnyRange.{AnyRange}
use Rattle.range_algebra.proofs.Lists.{every_left, every_right}
use Rattle.range_runs.specs.Chains.{line_of, Leads}
use Rattle.range_runs.proofs.Chains.{chain_before, chain_left, chain_right}
use Rattle.range_algebra.specs.Compared.{starts_at_end}
use Rattle.range_algebra.specs.Cuts.{past, lower, upper}
use Rattle.range_algebra.specs.Intervals.{Le, Lt}
use Rattle.range_runs.proofs.PlaceOrder.{eq_le, le_trans, lt_le, lt_not_le}
use Rattle.range_algebra.specs.Range.{IsKeyRange}
use Rattle.range_algebra.proofs.Positions.{flipped_bound_is_past}
use Rattle.range_store.specs.declared.storage.Item.{Item}
use Rattle.range_runs.specs.Frames.{IsInsertionFrame, JoinsOrMeets}
use Rattle.range_runs.specs.Stored.{item_lower, item_upper, IsStored}
use Rattle.range_runs.proofs.Forms.{places, before_is, touches_is, Chained, Known, stored_chain, stored_known, chain_stored}

no_item : {X : Type 0} (P : X → Type 0) (xs ys zs : List X) → Every (λ x. ¬ P x) (xs ++ ys ++ zs)
    → Every P ys → ys ≡ []
no_item P xs [] zs none all = refl
no_item P xs (y ∷ ys) zs none all =
    absurd ((every_right _ xs (y ∷ ys) (every_left _ (xs ++ y ∷ ys) zs none)).0 all.0)

-- what holds of all holds of the last
pub of_last : {X : Type 0} (P : X → Type 0) (xs : List X) (x : X) → Every P (xs ++ x ∷ [])
    → P x
of_last P [] x h = h.0
of_last P (y ∷ xs) x h = of_last P xs x h.1

module _ {K V : Type 0} (order : KeyOrder K) (lawful : IsLawful order) (same : V → V → Bool)
    (equal : IsEquivalence same) where
  -- a range that touches another ends where that starts
  touching_at : (e : Bound K) (s : AnyRange K) → IsTrue (starts_at_end order e (lower order s))
      → Le (places order lawful) (past order (end_position order e)) (lower order s)
  touching_at (Included a) s h = grind (arith, eq_is_equal, flipped_bound_is_past, places)
  touching_at (Excluded a) s h =
      le_trans lawful _ (start_position order (Included a)) _
      (eq_le lawful _ _ (flipped_bound_is_past order lawful (Excluded a) (Included a) refl))
      (grind (arith, eq_is_equal, places))
  touching_at Unbounded s h = absurd (cc)

  abbrev LeadsTo : Item (AnyRange K) V → Item (AnyRange K) V → Type 0
  LeadsTo i x = Leads (line_of order lawful same equal) i (item_lower order x) x.value

  -- what lies before x, and touches it only beside another value, does not join it
  not_joined : (i x : Item (AnyRange K) V) → IsKeyRange order i.key → IsKeyRange order x.key
      → Lt (places order lawful) (item_lower order i) (item_upper order i)
      → Lt (places order lawful) (item_lower order x) (item_upper order x) → LeadsTo i x
      → ¬ JoinsOrMeets order same x.key x.value i
  not_joined i x known known_x good good_x leads h = elim h [
    | inl meets ↦
        meets.0 ((before_is order lawful i.key.end x.key.start known.1 known_x.0).1 leads.0)
    | inr joins ↦ elim joins.0 [
      | inl touches ↦
          leads.1 ((touches_is order lawful i.key.end x.key known_x good_x leads.0).0 touches)
          joins.1
      | inr touches ↦
          lt_not_le lawful (lower order x.key) (upper order x.key) good_x
          (le_trans lawful _ (lower order i.key) _ (touching_at x.key.end i.key touches)
          (le_trans lawful _ (upper order i.key) _ (lt_le lawful _ _ good) leads.0))
    ]
  ]

  abbrev Goods : List (Item (AnyRange K) V) → Type 0
  Goods =
      Every (λ i. IsKeyRange order i.key
      × Lt (places order lawful) (item_lower order i) (item_upper order i))

  chained_items_have_places : (xs : List (Item (AnyRange K) V)) → Known order lawful same equal xs
      → Chained order lawful same equal xs → Goods xs
  chained_items_have_places [] known chain = tt
  chained_items_have_places (x ∷ xs) known chain =
      grind (arith, chain_right, chained_items_have_places xs known.1)

  none_joined : (xs : List (Item (AnyRange K) V)) (x : Item (AnyRange K) V) → Goods xs
      → IsKeyRange order x.key
      → Lt (places order lawful) (item_lower order x) (item_upper order x)
      → Every (λ i. LeadsTo i x) xs → Every (λ i. ¬ JoinsOrMeets order same x.key x.value i) xs
  none_joined [] x good known_x good_x leads = tt
  none_joined (i ∷ xs) x good known_x good_x leads = (
    not_joined i x good.0.0 known_x good.0.1 good_x leads.0,
    none_joined xs x good.1 known_x good_x leads.1,
  )

  -- nothing stands after an item that all others lead to
  none_behind : (front behind : List (Item (AnyRange K) V)) (x : Item (AnyRange K) V) → Goods behind
      → Lt (places order lawful) (item_lower order x) (item_upper order x)
      → Every (λ i. LeadsTo i x) behind → Chained order lawful same equal (front ++ x ∷ behind)
      → behind ≡ []
  none_behind front [] x good good_x leads chain = refl
  none_behind front (b ∷ behind) x good good_x leads chain =
      let own = chain_right (line_of order lawful same equal) front (x ∷ b ∷ behind) chain in
      absurd (lt_not_le lawful _ _ good_x (le_trans lawful _ (item_lower order b) _ own.1.0.0
      (le_trans lawful _ (item_upper order b) _ (lt_le lawful _ _ good.0.1) leads.0.0)))

  -- the items of a list in the form before its last one lead to that, and all are nonempty
  parts_of : (xs : List (Item (AnyRange K) V)) (x : Item (AnyRange K) V)
      → IsStored order same (xs ++ x ∷ [])
      → Goods xs × Every (λ i. LeadsTo i x) xs × IsKeyRange order x.key
      × Lt (places order lawful) (item_lower order x) (item_upper order x)
  parts_of xs x whole =
      let line = line_of order lawful same equal in
      let chain = stored_chain order lawful same equal (xs ++ x ∷ []) whole in
      let known = stored_known order lawful same equal (xs ++ x ∷ []) whole in (
        chained_items_have_places xs (every_left _ xs (x ∷ []) known)
            (chain_left line xs (x ∷ []) chain),
        chain_before line xs x [] chain,
        (every_right _ xs (x ∷ []) known).0,
        (chain_right line xs (x ∷ []) chain).0,
      )

  -- in a list in the form no item joins or meets the last
  pub apart_from_last : (xs : List (Item (AnyRange K) V)) (x : Item (AnyRange K) V)
      → IsStored order same (xs ++ x ∷ [])
      → Every (λ i. ¬ JoinsOrMeets order same x.key x.value i) xs
  apart_from_last xs x whole =
      let (good, leads, known, own) = parts_of xs x whole in none_joined xs x good known own leads

  -- a list in the form stands as it is, where its last item is put to the others
  pub stands_last : (xs new : List (Item (AnyRange K) V)) (x : Item (AnyRange K) V)
      → IsStored order same (xs ++ x ∷ []) → IsStored order same new
      → IsInsertionFrame order same xs new x.key x.value → new ≡ xs ++ x ∷ []
  stands_last xs new x whole stored frame =
      let (good, leads, known, own) = parts_of xs x whole in
      let empty : frame.run ≡ [] =
      no_item (JoinsOrMeets order same x.key x.value) frame.front frame.run frame.behind
      (rw frame.before at (apart_from_last xs x whole)) frame.such.concerned in
      let split : xs ≡ frame.front ++ frame.behind = rw (empty, append-nil) at frame.before in
      let after : new ≡ frame.front ++ x ∷ frame.behind =
      rw (frame.such.whole empty, append_assoc frame.front (x ∷ []) frame.behind) at frame.after in
      let behind : frame.behind ≡ [] =
      none_behind frame.front frame.behind x
      (every_right _ frame.front frame.behind (rw split at good)) own
      (every_right (λ i. LeadsTo i x) frame.front frame.behind (rw split at leads))
      (rw after at (stored_chain order lawful same equal new stored)) in
      after ∙ rw (split, behind, append-nil frame.front) refl

  -- the front of a list in the form is in the form
  pub stored_front : (xs ys : List (Item (AnyRange K) V)) → IsStored order same (xs ++ ys)
      → IsStored order same xs
  stored_front xs ys whole =
      chain_stored order lawful same equal xs
      (every_left (λ i. IsKeyRange order i.key) xs ys
      (stored_known order lawful same equal (xs ++ ys) whole))
      (chain_left (line_of order lawful same equal) xs ys
      (stored_chain order lawful same equal (xs ++ ys) whole))

  -- the list before the last is in the form
  pub stored_before : (xs : List (Item (AnyRange K) V)) (x : Item (AnyRange K) V)
      → IsStored order same (xs ++ x ∷ []) → IsStored order same xs
  stored_before xs x whole = stored_front xs (x ∷ []) whole
