-- Parts put together, and what they read then.
use Rattle.std.proofs.Common.{◌≡◌, refl, sym, ap, subst, ◌↔◌, ◌⊎◌, inl, inr, ℕ, ◌≤◌, ◌<◌, IsTrue, List, [], ◌∷◌, ◌++◌, arith, append-nil, append_assoc}
use Rattle.lexing_classes.specs.Leads.{Leads, LeadsBy}
use Rattle.lexing_classes.proofs.Any.{any-append}
use Rattle.lexing_patterns.specs.declared.part.Edge.{Edge}
use Rattle.lexing_patterns.specs.declared.part.Part.{Part}
use Rattle.lexing_patterns.specs.Languages.{InTurn, RoundsOf, one_text, more_texts}
use Rattle.lexing_patterns.specs.Parts.{HasEdge, IsAmong, IsWithin, Path, Reads, ReadsBy}

pub has_edge-append : (xs ys : List Edge) (p c q : ℕ)
    → HasEdge (xs ++ ys) p c q ↔ (HasEdge xs p c q ⊎ HasEdge ys p c q)
has_edge-append xs ys p c q = any-append (λ edge. (p ≡ edge.from) × LeadsBy c q edge.lead) xs ys

pub is_among-append : (xs ys : List ℕ) (q : ℕ)
    → IsAmong q (xs ++ ys) ↔ (IsAmong q xs ⊎ IsAmong q ys)
is_among-append xs ys q = any-append (λ state. q ≡ state) xs ys

path-append : (S : ℕ → ℕ → ℕ → Type 0) (p s q : ℕ) (u v : List ℕ) → Path S p u s → Path S s v q
    → Path S p (u ++ v) q
path-append S p s q [] v front back = grind arith
path-append S p s q (c ∷ u) v front back =
    (front.0, front.1, path-append S front.0 s q u v front.2 back)

pub path-more : (S T : ℕ → ℕ → ℕ → Type 0) → ((p c q : ℕ) → S p c q → T p c q) → (p : ℕ)
    (w : List ℕ) (q : ℕ) → Path S p w q → Path T p w q
path-more S T more p [] q path = path
path-more S T more p (c ∷ w) q path =
    (path.0, more p c path.0 path.1, path-more S T more path.0 w q path.2)

-- from such states the one kind of steps is also of the other, and leads to such states
pub path-within : (S T : ℕ → ℕ → ℕ → Type 0) (Is : ℕ → Type 0)
    → ((p c q : ℕ) → Is p → S p c q → T p c q × Is q) → (p : ℕ) (w : List ℕ) (q : ℕ) → Is p
    → Path S p w q → Path T p w q × Is q
path-within S T Is within p [] q at path = grind arith
path-within S T Is within p (c ∷ w) q at path =
    grind (arith, within p c path.0 at path.1, path-within S T Is within path.0 w q)

-- two parts, the states of the second below the middle and those of the first from there on
module _ (one other both : Part) (low middle high : ℕ) (first : IsWithin one middle high)
    (second : IsWithin other low middle) where
  abbrev StepOne : ℕ → ℕ → ℕ → Type 0
  StepOne = HasEdge one.edges.items

  abbrev StepOther : ℕ → ℕ → ℕ → Type 0
  StepOther = HasEdge other.edges.items

  abbrev Step : ℕ → ℕ → ℕ → Type 0
  Step = HasEdge both.edges.items

  -- side by side
  module _ (leads : (c q : ℕ) → Leads both.leads.items c q
      ↔ (Leads other.leads.items c q ⊎ Leads one.leads.items c q))
      (ends : (q : ℕ) → IsAmong q both.ends.items
      ↔ (IsAmong q other.ends.items ⊎ IsAmong q one.ends.items))
      (edges : (p c q : ℕ) → Step p c q ↔ (StepOther p c q ⊎ StepOne p c q))
      (empty : IsTrue both.empty ↔ (IsTrue other.empty ⊎ IsTrue one.empty)) where
    pub either_within : low ≤ middle → middle ≤ high → IsWithin both low high
    either_within below above = record {
      leads = λ c q h. grind (arith, leads c q, first.leads c q, second.leads c q);
      ends = λ q h. grind (arith, ends q, first.ends q, second.ends q);
      edges = λ p c q h. grind (arith, edges p c q, first.edges p c q, second.edges p c q);
    }

    pub either_reads : (w : List ℕ) → Reads both w ↔ (Reads one w ⊎ Reads other w)
    either_reads [] = grind (arith, empty)
    either_reads (c ∷ w) =
        let above =
        path-within Step StepOne (λ p. middle ≤ p)
        (λ p d q at h. grind (arith, edges p d q, first.edges p d q, second.edges p d q)) in
        let below =
        path-within Step StepOther (λ p. p < middle)
        (λ p d q at h. grind (arith, edges p d q, first.edges p d q, second.edges p d q)) in
        let of_one = path-more StepOne Step (λ p d q h. (edges p d q).1 (inr h)) in
        let of_other = path-more StepOther Step (λ p d q h. (edges p d q).1 (inl h)) in (
          λ (s, t, enters, path, stops).
              let low = second.leads c s in
              let high = first.leads c s in
              let stays = above s w t in
              grind (arith, leads c s, ends t, first.ends t, second.ends t, below s w t),
          λ h. elim h [
            | inl (s, t, enters, path, stops) ↦
                (s, t, (leads c s).1 (inr enters), of_one s w t path, (ends t).1 (inr stops))
            | inr (s, t, enters, path, stops) ↦
                (s, t, (leads c s).1 (inl enters), of_other s w t path, (ends t).1 (inl stops))
          ],
        )

  -- one after the other: from an end of the first the second's ways in lead on
  module _ (leads : (c q : ℕ) → Leads both.leads.items c q
      ↔ (Leads one.leads.items c q ⊎ (IsTrue one.empty × Leads other.leads.items c q)))
      (ends : (q : ℕ) → IsAmong q both.ends.items
      ↔ (IsAmong q other.ends.items ⊎ (IsTrue other.empty × IsAmong q one.ends.items)))
      (edges : (p c q : ℕ) → Step p c q
      ↔ ((StepOther p c q ⊎ StepOne p c q)
      ⊎ (IsAmong p one.ends.items × Leads other.leads.items c q)))
      (empty : IsTrue both.empty ↔ (IsTrue one.empty × IsTrue other.empty)) where
    pub turn_within : low ≤ middle → middle ≤ high → IsWithin both low high
    turn_within below above = record {
      leads = λ c q h. grind (arith, leads c q, first.leads c q, second.leads c q);
      ends = λ q h. grind (arith, ends q, first.ends q, second.ends q);
      edges = λ p c q h.
          let end = first.ends p in
          let enters = second.leads c q in
          grind (arith, edges p c q, first.edges p c q, second.edges p c q);
    }

    low_path : (p : ℕ) (w : List ℕ) (q : ℕ) → p < middle → Path Step p w q
        → Path StepOther p w q × (q < middle)
    low_path = path-within Step StepOther (λ p. p < middle)
        (λ p c q at h.
        grind (arith, edges p c q, first.edges p c q, second.edges p c q, first.ends p))

    -- from the second part's ways in a text of it is read
    back_read : (c s : ℕ) (w : List ℕ) (q : ℕ) → Leads other.leads.items c s → Path Step s w q
        → IsAmong q both.ends.items → Reads other (c ∷ w)
    back_read c s w q enters path stops =
        let (along, below) = low_path s w q (second.leads c s enters).1 path in
        (s, q, enters, along, grind (arith, ends q, first.ends q))

    -- a path in the first up to an end of it, and on in the second
    high_path : (p : ℕ) (w : List ℕ) (q : ℕ) → middle ≤ p → Path Step p w q
        → IsAmong q both.ends.items
        → InTurn (λ u. (t : ℕ) × Path StepOne p u t × IsAmong t one.ends.items) (Reads other) w
    high_path p [] q at path stops =
        grind (arith, ends q, second.ends q)
    high_path p (c ∷ w) q at (s, step, path) stops = elim ((edges p c s).0 step) [
      | inl (inl low) ↦ absurd (omega (arith, at, (second.edges p c s low).0.1))
      | inl (inr high) ↦
          let (u, v, parts, (t, front, end), back) =
          high_path s w q (first.edges p c s high).1.0 path stops in
          (c ∷ u, v, ap (λ x. c ∷ x) parts, (t, (s, high, front), end), back)
      | inr (end, enters) ↦
          ([], c ∷ w, refl, (p, refl, end), back_read c s w q enters path stops)
    ]

    turn_splits : (w : List ℕ) → Reads both w → InTurn (Reads one) (Reads other) w
    turn_splits [] h = let (none, none_other) = empty.0 h in ([], [], refl, none, none_other)
    turn_splits (c ∷ w) (s, q, enters, path, stops) = elim ((leads c s).0 enters) [
      | inl high ↦
          let (u, v, parts, (t, front, end), back) =
          high_path s w q (first.leads c s high).0 path stops in
          (c ∷ u, v, ap (λ x. c ∷ x) parts, (s, t, high, front, end), back)
      | inr (none, low) ↦ ([], c ∷ w, refl, none, back_read c s w q low path stops)
    ]

    of_one : (s : ℕ) (w : List ℕ) (t : ℕ) → Path StepOne s w t → Path Step s w t
    of_one = path-more StepOne Step (λ p d q h. (edges p d q).1 (inl (inr h)))

    of_other : (s : ℕ) (w : List ℕ) (t : ℕ) → Path StepOther s w t → Path Step s w t
    of_other = path-more StepOther Step (λ p d q h. (edges p d q).1 (inl (inl h)))

    turn_joins : (u v : List ℕ) → Reads one u → Reads other v → Reads both (u ++ v)
    turn_joins [] [] a b = empty.1 (a, b)
    turn_joins [] (c ∷ v) a (s, t, enters, path, stops) =
        grind (arith, leads c s, ends t, of_other s v t path)
    turn_joins (c ∷ u) [] (s, t, enters, path, stops) b =
        grind (arith, append-nil (c ∷ u), leads c s, ends t, of_one s u t path)
    turn_joins (c ∷ u) (d ∷ v) (s, t, enters, front, end) (r, q, on, back, last) =
        let step = (edges t d r).1 (inr (end, on)) in (
          s,
          q,
          (leads c s).1 (inl enters),
          path-append Step s t q u (d ∷ v) (of_one s u t front) (r, step, of_other r v q back),
          (ends q).1 (inl last),
        )

    pub turn_reads : (w : List ℕ) → Reads both w ↔ InTurn (Reads one) (Reads other) w
    turn_reads w =
        (turn_splits w, λ (u, v, parts, front, back). rw parts (turn_joins u v front back))

-- from an end of the automaton its ways in lead on
module _ (In : ℕ → ℕ → Type 0) (Step Loop : ℕ → ℕ → ℕ → Type 0) (Ends : ℕ → Type 0)
    (Empty : Type 0) (loops : (p c q : ℕ) → Loop p c q ↔ (Step p c q ⊎ (Ends p × In c q))) where
  abbrev Once : List ℕ → Type 0
  Once = ReadsBy In Step Ends Empty

  abbrev LoopReads : List ℕ → Type 0
  LoopReads = ReadsBy In Loop Ends Empty

  abbrev MaybeRounds : List ℕ → Type 0
  MaybeRounds w = (w ≡ []) ⊎ RoundsOf Once w

  rounds_more : (u v : List ℕ) → Once u → MaybeRounds v → RoundsOf Once (u ++ v)
  rounds_more u v once (inl none) = rw (none, append-nil) (one_text u once)
  rounds_more u _ once (inr (one_text v last)) = more_texts u v (one_text u once) last
  rounds_more u _ once (inr (more_texts v x rounds last)) =
      rw (← append_assoc) (more_texts (u ++ v) x (rounds_more u v once (inr rounds)) last)

  -- the first round ends, and others may follow
  leaves : (p : ℕ) (w : List ℕ) (q : ℕ) → Path Loop p w q → Ends q
      → InTurn (λ u. (t : ℕ) × Path Step p u t × Ends t) MaybeRounds w
  leaves p [] q path end = ([], [], refl, (p, refl, rw path end), inl refl)
  leaves p (c ∷ w) q (s, step, path) end =
      let (u, v, parts, (t, front, ends), rest) = leaves s w q path end in
      elim ((loops p c s).0 step) [
        | inl same ↦ (c ∷ u, v, ap (λ x. c ∷ x) parts, (t, (s, same, front), ends), rest)
        | inr (end, enters) ↦
            grind (arith, rounds_more (c ∷ u) v (s, t, enters, front, ends) rest)
      ]

  loop_splits : (w : List ℕ) → LoopReads w → RoundsOf Once w
  loop_splits [] h = one_text [] h
  loop_splits (c ∷ w) (s, q, enters, path, end) =
      let (u, v, parts, (t, front, ends), rest) = leaves s w q path end in
      rw parts (rounds_more (c ∷ u) v (s, t, enters, front, ends) rest)

  loop_once : (w : List ℕ) → Once w → LoopReads w
  loop_once [] h = h
  loop_once (c ∷ w) (s, t, enters, path, end) =
      (s, t, enters, path-more Step Loop (λ p d q h. (loops p d q).1 (inl h)) s w t path, end)

  loop_joins : (w : List ℕ) → RoundsOf Once w → LoopReads w
  loop_joins _ (one_text w h) = loop_once w h
  loop_joins _ (more_texts u v rounds last) = more u v (loop_joins u rounds) last
    where
      more : (u v : List ℕ) → LoopReads u → Once v → LoopReads (u ++ v)
      more [] v a b = loop_once v b
      more (c ∷ u) [] a b = subst LoopReads (sym (append-nil (c ∷ u))) a
      more (c ∷ u) (d ∷ v) (s, t, enters, front, end) b =
          grind (arith, loop_once (d ∷ v) b, loops t d, path-append Loop s t)

  pub loop_reads : (w : List ℕ) → LoopReads w ↔ RoundsOf Once w
  loop_reads w = (loop_splits w, loop_joins w)
