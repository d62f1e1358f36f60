use Rattle.std.proofs.Common.{◌≡◌, ◌≤◌, ◌^◌, ◌++◌, nat_eq, None, reverse, ap, ◌∙◌, arith, pow_mono}
use Rattle.std.proofs.lemmas.Bool.Decides.{Decides-eqb}
use Rattle.std.proofs.lemmas.List.{reverse-reverse}
use Rattle.shortest_tables.specs.Labels.{table}
use Rattle.shortest_tables.specs.Numbers.{block, number}
use Rattle.shortest_tables.proofs.Aligned.{are_blocks}
use Rattle.shortest_tables.proofs.Values.{placed_numbered, table_numbered}
use Rattle.shortest_tables.proofs.Walks.{value_numbered}
use Rattle.shortest_tables.proofs.Numbered.{Made, are_fewest, routes_as, short_table}
use Rattle.shortest_tables.proofs.shortest.shortest_table.Goals as goal

pub gather-requires-clause-fits : goal.gather-requires-clause-fits
gather-requires-clause-fits c = let p : 2 ^ c.args.width ≤ 2 ^ 128 = pow_mono c.requires.small in omega (arith, p)

pub push_entries-requires-clause-fits : goal.push_entries-requires-clause-fits
push_entries-requires-clause-fits c = let p : 2 ^ c.args.width ≤ 2 ^ 128 = pow_mono c.requires.small in omega (arith, p)

pub returns : goal.returns
returns c =
    let f = block c.args.otherwise c.args.spans.items c.args.width 0 in
    let made = Made nat_eq Decides-eqb c.args.otherwise c.args.spans.items c.args.width in
    let added = rw c.as_slice.ensures.value at c.in_ok-gather.ensures.added in
    let written = c.in_ok-push_entries.ensures f added.0 c.in_ok-marks.marks.nodes.items
    c.in_ok-marks.marks.labels.items added.1 added.2 in
    let e : c.reverse.new.self.items ≡ made =
    c.reverse.ensures.items ∙ ap (λ x. reverse x) (written.2
    ∙ ap (λ x. x ++ reverse made) c.new-table.ensures.items) ∙ reverse-reverse made in record {
      blocks = rw e (are_blocks c.args.width (table nat_eq c.args.width f)
          (short_table nat_eq c.args.width f None));
      values = rw e (placed_numbered c.args.count c.args.width c.args.width 0
          (table nat_eq c.args.width f) (table_numbered c.args.count c.args.width f None
          (λ a. value_numbered c.args.otherwise c.args.count 0 c.args.spans.items
          c.requires.otherwise c.requires.spans (number c.args.width 0 a))));
      routes = rw e (routes_as nat_eq Decides-eqb c.args.otherwise c.args.spans.items c.args.width);
      fewest = rw e (are_fewest nat_eq Decides-eqb c.args.otherwise c.args.spans.items
          c.args.width);
    }
