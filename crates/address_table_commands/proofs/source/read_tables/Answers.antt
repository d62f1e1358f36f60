use Rattle.std.proofs.Common.{◌≡◌, ℕ, [], ◌∷◌, List, length, ap, sym, subst, ◌∙◌, arith}
use Rattle.std.proofs.lemmas.Result.{err_from_is_err_and}
use Rattle.std.specs.Prelude.{map}
use Rattle.std.specs.Vec.Iter.{into_iter_items}
use Rattle.address_table_commands.specs.declared.source.Source.{Source}
use Rattle.address_table_commands.proofs.Files.{AreReadTo, all_read, nothing_left, one_read, one_unread, read_none}
use Rattle.address_table_commands.proofs.source.read_tables.Goals as goal

pub loop-source-init : goal.loop-source-init
loop-source-init g c = (
  c.requires,
  λ files known. read_none c.args.reading c.args.header.now c.args.left_out.now.items
      (map (λ (s : Source _). s.name) (into_iter_items c.args.sources)) files _ _ known
      c.new-rows.ensures,
)

pub loop-source-preserved : goal.loop-source-preserved
loop-source-preserved g c =
    let names = map (λ (s : Source _). s.name) (into_iter_items c.args.sources) in
    let AreRead : List (List ℕ) → List (Source _) → Type 0 =
    λ files left. AreReadTo c.args.reading c.args.header.now c.args.left_out.now.items names files
    (map (λ (s : Source _). g.R.Read.remaining s.reader) left)
    (map (λ (s : Source _). s.name) left) c.loop-source.left_out.items c.loop-source.rows in
    let steps : into_iter_items c.loop-source.sources ≡ c.in-Some.source ∷ into_iter_items c.next.new.self =
    c.in-Some.ensures.items in (
      let was = c.loop-source.invariant.0 in
          let gone = c.in-Some.ensures.len in
          let short = ap length steps in
          omega arith,
      λ files known. one_read c.args.reading c.args.header.now c.args.left_out.now.items names files
          (g.R.Read.remaining c.in-Some.source.reader) c.in-Some.source.name
          (map (λ (s : Source _). g.R.Read.remaining s.reader) (into_iter_items c.next.new.self))
          (map (λ (s : Source _). s.name) (into_iter_items c.next.new.self))
          c.loop-source.left_out.items c.read_table.new.left_out.items c.loop-source.rows
          c.read_table.new.rows
          (subst (AreRead files) steps (c.loop-source.invariant.1 files known))
          c.in_ok-read_table.ensures.read,
    )

pub loop-source-smaller : goal.loop-source-smaller
loop-source-smaller g c =
    let short = ap length c.in-Some.ensures.items in
    omega arith

pub returns-clause-read : goal.returns-clause-read
returns-clause-read g c = λ files known.
    let names = map (λ (s : Source _). s.name) (into_iter_items c.args.sources) in
    let AreRead : List (Source _) → Type 0 =
    λ left. AreReadTo c.args.reading c.args.header.now c.args.left_out.now.items names files
    (map (λ (s : Source _). g.R.Read.remaining s.reader) left)
    (map (λ (s : Source _). s.name) left) c.loop-source.left_out.items c.loop-source.rows in
    let ended : into_iter_items c.loop-source.sources ≡ [] =
    nothing_left _ (sym c.loop-source.invariant.0 ∙ c.in_default.ensures.cases.0) in
    all_read c.args.reading c.args.header.now c.args.left_out.now.items names files []
    c.loop-source.left_out.items c.loop-source.rows
    (subst AreRead ended (c.loop-source.invariant.1 files known))

pub returns-in_err-read_table-clause-bad : goal.returns-in_err-read_table-clause-bad
returns-in_err-read_table-clause-bad g c =
    let error = err_from_is_err_and c.from_residual.result c.from_residual.ensures.1 in
    let names = map (λ (s : Source _). s.name) (into_iter_items c.args.sources) in
    let AreRead : List (List ℕ) → List (Source _) → Type 0 =
    λ files left. AreReadTo c.args.reading c.args.header.now c.args.left_out.now.items names files
    (map (λ (s : Source _). g.R.Read.remaining s.reader) left)
    (map (λ (s : Source _). s.name) left) c.loop-source.left_out.items c.loop-source.rows in
    let steps : into_iter_items c.loop-source.sources ≡ c.in-Some.source ∷ into_iter_items c.next.new.self =
    c.in-Some.ensures.items in
    rw (error.1, error.2)
    (λ files known. one_unread c.args.reading c.args.header.now c.args.left_out.now.items names
    files (g.R.Read.remaining c.in-Some.source.reader) c.in-Some.source.name
    (map (λ (s : Source _). g.R.Read.remaining s.reader) (into_iter_items c.next.new.self))
    (map (λ (s : Source _). s.name) (into_iter_items c.next.new.self))
    c.loop-source.left_out.items c.loop-source.rows c.in_err-read_table.field-0.0
    (subst (AreRead files) steps (c.loop-source.invariant.1 files known))
    c.in_err-read_table.ensures.bad)
