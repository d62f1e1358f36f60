-- One more automaton beside the others.
use Rattle.std.proofs.Common.{◌≡◌, refl, ◌↔◌, ◌⊎◌, inl, inr, ℕ, ◌+◌, ◌≤◌, ◌<◌, IsTrue, List, [], ◌∷◌, ◌++◌, length, arith}
use Rattle.std.proofs.lemmas.Grind.{common_steps}
use Rattle.std.proofs.lemmas.Option.{slice_get_within}
use Rattle.regex_hir.specs.Re.{Re}
use Rattle.state_sets.proofs.Lists.{slice_get-push}
use Rattle.lexing_patterns.specs.declared.part.Edge.{Edge}
use Rattle.lexing_patterns.specs.declared.part.Part.{Part}
use Rattle.lexing_patterns.specs.declared.draft.End.{End}
use Rattle.lexing_classes.specs.Leads.{Leads}
use Rattle.lexing_patterns.specs.Parts.{HasEdge, IsAmong, Path, Reads}
use Rattle.lexing_patterns.specs.Built.{IsBuilt}
use Rattle.lexing_patterns.specs.Drafts.{HasEnd, DraftReads, AreDrafted}
use Rattle.lexing_patterns.proofs.Joining.{path-more, path-within}
use Rattle.lexing_patterns.proofs.Meanings.{language_same}

pub none_drafted : AreDrafted [] [] [] 0 []
none_drafted = grind arith

module _ (edges more_edges : List Edge) (starts more_starts : List ℕ) (ends more_ends : List End)
    (res : List Re) (re : Re) (part : Part) (low start : ℕ)
    (was : AreDrafted edges starts ends low res) (built : IsBuilt re part low start)
    (grows : low ≤ start)
    (edge : (p c q : ℕ) → HasEdge more_edges p c q
    ↔ ((HasEdge edges p c q ⊎ HasEdge part.edges.items p c q)
    ⊎ ((p ≡ start) × Leads part.leads.items c q)))
    (begin : (p : ℕ) → IsAmong p more_starts ↔ (IsAmong p starts ⊎ (p ≡ start)))
    (end : (q r : ℕ) → HasEnd more_ends q r ↔ (HasEnd ends q r
    ⊎ ((IsAmong q part.ends.items ⊎ (IsTrue part.empty × (q ≡ start))) × (r ≡ length res)))) where
  abbrev New : ℕ → ℕ → ℕ → Type 0
  New p c q = HasEdge part.edges.items p c q ⊎ ((p ≡ start) × Leads part.leads.items c q)

  abbrev Old : ℕ → ℕ → ℕ → Type 0
  Old = HasEdge edges

  abbrev Last : ℕ → Type 0
  Last q = IsAmong q part.ends.items ⊎ (IsTrue part.empty × (q ≡ start))

  new_step : (p c q : ℕ) → New p c q → (low ≤ p) × (low ≤ q)
  new_step p c q h = grind (arith, built.within.edges p c q, built.within.leads c q)

  last_from : (q : ℕ) → Last q → (low ≤ q) × (q < start + 1)
  last_from q h = grind (arith, built.within.ends q)

  old_path : (p : ℕ) (w : List ℕ) (q : ℕ) → p < low → Path (HasEdge more_edges) p w q
      → Path Old p w q × (q < low)
  old_path = path-within (HasEdge more_edges) Old (λ p. p < low)
      (λ p c q at step. grind (arith, edge p c q, was.edges_below p c q, new_step p c q))

  new_path : (p : ℕ) (w : List ℕ) (q : ℕ) → low ≤ p → Path (HasEdge more_edges) p w q
      → Path New p w q × (low ≤ q)
  new_path = path-within (HasEdge more_edges) New (λ p. low ≤ p)
      (λ p c q at step. grind (arith, edge p c q, was.edges_below p c q, new_step p c q))

  join_old : (p : ℕ) (w : List ℕ) (q : ℕ) → Path Old p w q → Path (HasEdge more_edges) p w q
  join_old = path-more Old (HasEdge more_edges) (λ p c q h. grind (arith, edge p c q))

  join_new : (p : ℕ) (w : List ℕ) (q : ℕ) → Path New p w q → Path (HasEdge more_edges) p w q
  join_new = path-more New (HasEdge more_edges) (λ p c q h. grind (arith, edge p c q))

  -- the rules before read what they read
  as_before : (r : ℕ) → r < length res → (w : List ℕ)
      → DraftReads more_edges more_starts more_ends r w ↔ DraftReads edges starts ends r w
  as_before r among w = grind (arith, old_path, new_path, join_old)

  within_part : (p : ℕ) (w : List ℕ) (q : ℕ) → p < start → Path New p w q
      → Path (HasEdge part.edges.items) p w q × (q < start)
  within_part = path-within New (HasEdge part.edges.items) (λ p. p < start)
      (λ p c q at step. grind (arith, built.within.edges p c q))

  part_reads : (w : List ℕ) (q : ℕ) → Path New start w q → Last q → Reads part w
  part_reads [] q path last = grind (arith, built.within.ends q)
  part_reads (c ∷ w) q path last =
      let along = within_part path.0 w q in
      grind (arith, built.within.edges start c path.0, built.within.leads c path.0)

  reads_part : (w : List ℕ) → Reads part w → (q : ℕ) × Path New start w q × Last q
  reads_part [] h = (start, refl, inr (h, refl))
  reads_part (c ∷ w) (s, t, lead, path, stops) =
      grind (arith, path-more (HasEdge part.edges.items) New)

  -- the new rule reads what the part does
  as_part : (w : List ℕ) → DraftReads more_edges more_starts more_ends (length res) w
      ↔ Reads part w
  as_part w = (
    λ (p, q, begins, path, stops).
        let below = was.ends_below q (length res) in
        let from = last_from q in
        let reads = part_reads w q in
        let old = old_path p w q in
        grind (arith, new_path p w q, begin p, end q (length res), was.starts_below p),
    grind (arith, reads_part w, begin start, join_new start w),
  )

  pub one_more_drafted : AreDrafted more_edges more_starts more_ends (start + 1) (res ++ re ∷ [])
  one_more_drafted = record {
    edges_below = λ p c q h.
        let inside = built.within.edges p c q in
        grind (arith, edge p c q, was.edges_below p c q, built.within.leads c q);
    starts_below = λ p h. grind (arith, begin p, was.starts_below p);
    ends_below = λ q r h. grind (arith, common_steps, end q r, was.ends_below q r, last_from q);
    ends_at_one = λ q r s h k.
        let below = was.ends_below q in
        grind (arith, end q r, end q s, was.ends_at_one q r s, below r, below s, last_from q);
    languages = λ r other at. elim ((slice_get-push res re r other).0 at) [
      | inl old ↦
          let within = slice_get_within res r other old in
          language_same (λ w s. as_before r within w) (was.languages r other old)
      | inr (place, same) ↦
          rw (← same, place) (language_same (λ w s. as_part w) built.language)
    ];
  }
