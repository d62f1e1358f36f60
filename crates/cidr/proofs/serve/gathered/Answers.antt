use Rattle.std.proofs.Common.{◌≡◌, ℕ, [], ◌∷◌, List, length, ap, sym, subst, ◌∙◌, arith}
use Rattle.std.proofs.lemmas.Result.{err_from_is_err_and}
use Rattle.std.specs.Prelude.{map}
use Rattle.std.specs.Vec.Iter.{into_iter_items}
use Rattle.address_lists.specs.Files.{Content, IsSaidIn}
use Rattle.address_lists.specs.Lists.{Has, HasJust}
use Rattle.cidr.specs.Commands.{Combined, Put}
use Rattle.cidr.specs.declared.serve.Source.{Source}
use Rattle.cidr.proofs.Commands.{IsReadTo, all_made, none_made, nothing_left, one_made, one_unread, put_step}
use Rattle.cidr.proofs.serve.gathered.Goals as goal

pub loop-source-init : goal.loop-source-init
loop-source-init g c = (
  c.requires,
  λ files known. none_made c.args.reading c.args.left_out.now.items
      (map (λ (s : Source _). s.name) (into_iter_items c.args.sources)) files _
      (λ lists. HasJust c.args.list (Put c.args.command (Has c.args.list) lists)) known
      (λ family n h. (λ has. has, λ has. has)),
)

pub loop-source-preserved : goal.loop-source-preserved
loop-source-preserved g c =
    let numbers = c.loop-source.left_out.items in
    let IsMade : List (Content × ℕ) → Type 0 =
    λ lists. HasJust c.loop-source.list (Put c.args.command (Has c.args.list) lists) in
    let names = map (λ (s : Source _). s.name) (into_iter_items c.args.sources) in
    let IsPut : List (List ℕ) → List (Source _) → Type 0 =
    λ files left. IsReadTo c.args.reading c.args.left_out.now.items names
    files (map (λ (s : Source _). g.R.Read.remaining s.reader) left)
    (map (λ (s : Source _). s.name) left) numbers IsMade in
    let steps : into_iter_items c.loop-source.sources ≡ c.in-Some.source ∷ into_iter_items c.next.new.self =
    c.in-Some.ensures.items in (
      let was = c.loop-source.invariant.0 in
          let gone = c.in-Some.ensures.len in
          let short = ap length steps in
          omega arith,
      λ files known. one_made c.args.reading c.args.left_out.now.items names files IsMade
          (λ lists. HasJust c.add_source.new.list (Put c.args.command (Has c.args.list) lists))
          (λ one. HasJust c.add_source.new.list
          (Combined c.args.command (Has c.loop-source.list) (IsSaidIn one.0)))
          (put_step c.args.command (Has c.args.list) c.loop-source.list c.add_source.new.list)
          (g.R.Read.remaining c.in-Some.source.reader) c.in-Some.source.name
          (map (λ (s : Source _). g.R.Read.remaining s.reader) (into_iter_items c.next.new.self))
          (map (λ (s : Source _). s.name) (into_iter_items c.next.new.self))
          numbers c.add_source.new.left_out.items
          (subst (IsPut files) steps (c.loop-source.invariant.1 files known))
          c.in_ok-add_source.ensures.put,
    )

pub loop-source-smaller : goal.loop-source-smaller
loop-source-smaller g c =
    let short = ap length c.in-Some.ensures.items in
    omega arith

pub returns-clause-made : goal.returns-clause-made
returns-clause-made g c = λ files known.
    let numbers = c.loop-source.left_out.items in
    let IsMade : List (Content × ℕ) → Type 0 =
    λ lists. HasJust c.loop-source.list (Put c.args.command (Has c.args.list) lists) in
    let names = map (λ (s : Source _). s.name) (into_iter_items c.args.sources) in
    let IsPut : List (Source _) → Type 0 =
    λ left. IsReadTo c.args.reading c.args.left_out.now.items names files
    (map (λ (s : Source _). g.R.Read.remaining s.reader) left)
    (map (λ (s : Source _). s.name) left) numbers IsMade in
    let ended : into_iter_items c.loop-source.sources ≡ [] =
    nothing_left _ (sym c.loop-source.invariant.0 ∙ c.in_default.ensures.cases.0) in
    all_made c.args.reading c.args.left_out.now.items names files numbers IsMade []
    (subst IsPut ended (c.loop-source.invariant.1 files known))

pub returns-in_err-add_source-clause-bad : goal.returns-in_err-add_source-clause-bad
returns-in_err-add_source-clause-bad g c =
    let error = err_from_is_err_and c.from_residual.result c.from_residual.ensures.1 in
    let numbers = c.loop-source.left_out.items in
    let IsMade : List (Content × ℕ) → Type 0 =
    λ lists. HasJust c.loop-source.list (Put c.args.command (Has c.args.list) lists) in
    let names = map (λ (s : Source _). s.name) (into_iter_items c.args.sources) in
    let IsPut : List (List ℕ) → List (Source _) → Type 0 =
    λ files left. IsReadTo c.args.reading c.args.left_out.now.items names
    files (map (λ (s : Source _). g.R.Read.remaining s.reader) left)
    (map (λ (s : Source _). s.name) left) numbers IsMade in
    let steps : into_iter_items c.loop-source.sources ≡ c.in-Some.source ∷ into_iter_items c.next.new.self =
    c.in-Some.ensures.items in
    rw (error.1, error.2)
    (λ files known. one_unread c.args.reading c.args.left_out.now.items names files
    (g.R.Read.remaining c.in-Some.source.reader)
    c.in-Some.source.name
    (map (λ (s : Source _). g.R.Read.remaining s.reader) (into_iter_items c.next.new.self))
    (map (λ (s : Source _). s.name) (into_iter_items c.next.new.self))
    numbers IsMade c.in_err-add_source.field-0.0
    (subst (IsPut files) steps (c.loop-source.invariant.1 files known))
    c.in_err-add_source.ensures.bad)

pub returns-in_err-add_source-clause-unread : goal.returns-in_err-add_source-clause-unread
returns-in_err-add_source-clause-unread g c =
    let error = err_from_is_err_and c.from_residual.result c.from_residual.ensures.1 in
    rw (error.1, error.2) c.in_err-add_source.ensures.unread
