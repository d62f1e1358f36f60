use Rattle.std.proofs.Common.{sym, subst, ◌∙◌, arith}
use Rattle.btree_range_map.specs.Holding.{box_items}
use Rattle.line_program.proofs.Listing.{appends_none}
use Rattle.address_prefixes.specs.Runs.{IsSpan}
use Rattle.address_tables.proofs.Items.{have_spans}
use Rattle.address_tables.proofs.Pushed.{HaveSpans, is_span}
use Rattle.address_table_commands.proofs.Compared.{first_alone}
use Rattle.address_table_commands.proofs.differences.write_first.Goals as goal

pub span_of-first-requires : goal.span_of-first-requires
span_of-first-requires g c =
    let items = c.iter-items.ensures.items in
    let canonical = rw items at c.iter-items.ensures.canonical in
    (subst (λ left. HaveSpans g.A.Address.number g.A.Address.at g.A.Address.WIDTH left)
    (sym items ∙ c.in-Some.ensures.steps)
    (have_spans g.met.A.Address.family _ (box_items c.args.changes.now) canonical.stored.known
    (canonical.coarse g.met.A.Complete.complete))).0

pub write_change-requires : goal.write_change-requires
write_change-requires g c =
    let items = c.iter-items.ensures.items in
    let canonical = rw items at c.iter-items.ensures.canonical in
    let has =
    (subst (λ left. HaveSpans g.A.Address.number g.A.Address.at g.A.Address.WIDTH left)
    (sym items ∙ c.in-Some.ensures.steps)
    (have_spans g.met.A.Address.family _ (box_items c.args.changes.now) canonical.stored.known
    (canonical.coarse g.met.A.Complete.complete))).0 in
    first_alone g.A.Address.WIDTH c.span_of-first.result
    (subst (IsSpan g.A.Address.WIDTH) (sym c.span_of-first.ensures)
    (is_span g.A.Address.number g.A.Address.at g.A.Address.WIDTH c.in-Some.range.now has))

pub returns-in-None : goal.returns-in-None
returns-in-None g c = grind (arith, appends_none)
