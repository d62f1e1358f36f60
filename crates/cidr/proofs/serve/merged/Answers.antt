use Rattle.std.proofs.Common.{◌≡◌, ℕ, [], ◌∷◌, List, length, ap, sym, subst, ◌∙◌, arith}
use Rattle.std.proofs.lemmas.Result.{err_from_is_err_and}
use Rattle.std.specs.Prelude.{map}
use Rattle.std.specs.Vec.Iter.{into_iter_items}
use Rattle.address_lists.specs.Files.{Content, IsSaidIn}
use Rattle.address_lists.specs.Lists.{AreAdded}
use Rattle.address_lists.specs.Waiting.{HasSoFar}
use Rattle.cidr.specs.declared.serve.Source.{Source}
use Rattle.cidr.proofs.Commands.{AreMerged, IsReadTo, all_made, just_merged, merge_step, none_made, none_merged, nothing_left, one_made, one_unread}
use Rattle.cidr.proofs.serve.merged.Goals as goal

pub loop-source-init : goal.loop-source-init
loop-source-init g c = (
  c.requires,
  λ files known. none_made c.args.reading c.args.left_out.now.items
      (map (λ (s : Source _). s.name) (into_iter_items c.args.sources)) files _
      (AreMerged (HasSoFar c.new-list.result c.new-waiting.result)) known
      (none_merged c.new-list.result (HasSoFar c.new-list.result c.new-waiting.result)
      c.new-list.ensures.v4 c.new-list.ensures.v6 (c.new-waiting.ensures c.new-list.result)),
)

pub loop-source-preserved : goal.loop-source-preserved
loop-source-preserved g c =
    let numbers = c.loop-source.left_out.items in
    let IsMade : List (Content × ℕ) → Type 0 =
    AreMerged (HasSoFar c.loop-source.list c.loop-source.waiting) in
    let names = map (λ (s : Source _). s.name) (into_iter_items c.args.sources) in
    let IsPut : List (List ℕ) → List (Source _) → Type 0 =
    λ files left. IsReadTo c.args.reading c.args.left_out.now.items names
    files (map (λ (s : Source _). g.R.Read.remaining s.reader) left)
    (map (λ (s : Source _). s.name) left) numbers IsMade in
    let steps : into_iter_items c.loop-source.sources ≡ c.in-Some.source ∷ into_iter_items c.next.new.self =
    c.in-Some.ensures.items in (
      let was = c.loop-source.invariant.0 in
          let gone = c.in-Some.ensures.len in
          let short = ap length steps in
          omega arith,
      λ files known. one_made c.args.reading c.args.left_out.now.items names files IsMade
          (AreMerged (HasSoFar c.gather.new.list c.gather.new.waiting))
          (λ one. AreAdded (HasSoFar c.loop-source.list c.loop-source.waiting)
          (HasSoFar c.gather.new.list c.gather.new.waiting) (IsSaidIn one.0))
          (merge_step (HasSoFar c.loop-source.list c.loop-source.waiting)
          (HasSoFar c.gather.new.list c.gather.new.waiting))
          (g.R.Read.remaining c.in-Some.source.reader) c.in-Some.source.name
          (map (λ (s : Source _). g.R.Read.remaining s.reader) (into_iter_items c.next.new.self))
          (map (λ (s : Source _). s.name) (into_iter_items c.next.new.self))
          numbers c.gather.new.left_out.items
          (subst (IsPut files) steps (c.loop-source.invariant.1 files known))
          c.in_ok-gather.ensures.read,
    )

pub loop-source-smaller : goal.loop-source-smaller
loop-source-smaller g c =
    let short = ap length c.in-Some.ensures.items in
    omega arith

pub returns-in-Ok-clause-made : goal.returns-in-Ok-clause-made
returns-in-Ok-clause-made g c = λ files known.
    let numbers = c.loop-source.left_out.items in
    let IsMade : List (Content × ℕ) → Type 0 =
    AreMerged (HasSoFar c.loop-source.list c.loop-source.waiting) in
    let names = map (λ (s : Source _). s.name) (into_iter_items c.args.sources) in
    let IsPut : List (Source _) → Type 0 =
    λ left. IsReadTo c.args.reading c.args.left_out.now.items names files
    (map (λ (s : Source _). g.R.Read.remaining s.reader) left)
    (map (λ (s : Source _). s.name) left) numbers IsMade in
    let ended : into_iter_items c.loop-source.sources ≡ [] =
    nothing_left _ (sym c.loop-source.invariant.0 ∙ c.in_default.ensures.cases.0) in
    just_merged c.args.reading files c.args.left_out.now.items numbers
    (HasSoFar c.loop-source.list c.loop-source.waiting) c.add_all.new.list c.in-Ok.ensures.added
    (all_made c.args.reading c.args.left_out.now.items names files numbers IsMade []
    (subst IsPut ended (c.loop-source.invariant.1 files known)))

pub returns-in_err-gather-clause-bad : goal.returns-in_err-gather-clause-bad
returns-in_err-gather-clause-bad g c =
    let error = err_from_is_err_and c.from_residual.result c.from_residual.ensures.1 in
    let numbers = c.loop-source.left_out.items in
    let IsMade : List (Content × ℕ) → Type 0 =
    AreMerged (HasSoFar c.loop-source.list c.loop-source.waiting) in
    let names = map (λ (s : Source _). s.name) (into_iter_items c.args.sources) in
    let IsPut : List (List ℕ) → List (Source _) → Type 0 =
    λ files left. IsReadTo c.args.reading c.args.left_out.now.items names
    files (map (λ (s : Source _). g.R.Read.remaining s.reader) left)
    (map (λ (s : Source _). s.name) left) numbers IsMade in
    let steps : into_iter_items c.loop-source.sources ≡ c.in-Some.source ∷ into_iter_items c.next.new.self =
    c.in-Some.ensures.items in
    rw (error.1, error.2)
    (λ files known. one_unread c.args.reading c.args.left_out.now.items names files
    (g.R.Read.remaining c.in-Some.source.reader)
    c.in-Some.source.name
    (map (λ (s : Source _). g.R.Read.remaining s.reader) (into_iter_items c.next.new.self))
    (map (λ (s : Source _). s.name) (into_iter_items c.next.new.self))
    numbers IsMade c.in_err-gather.field-0.0
    (subst (IsPut files) steps (c.loop-source.invariant.1 files known))
    c.in_err-gather.ensures.bad)

pub returns-in_err-gather-clause-unread : goal.returns-in_err-gather-clause-unread
returns-in_err-gather-clause-unread g c =
    let error = err_from_is_err_and c.from_residual.result c.from_residual.ensures.1 in
    rw (error.1, error.2) c.in_err-gather.ensures.unread
