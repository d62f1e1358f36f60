use Rattle.std.proofs.Common.{◌≡◌, arith}
use Rattle.std.proofs.lemmas.List.{take_more}
use Rattle.lexing_patterns.specs.declared.part.Edge.{Edge}
use Rattle.lexing_classes.specs.Leads.{LeadsBy}
use Rattle.lexing_classes.proofs.Any.{any-push}
use Rattle.lexing_patterns.proofs.Pouring.{not_above, same_both}
use Rattle.lexing_patterns.proofs.pour.add_edges.Goals as goal

pub loop-edge-preserved : goal.loop-edge-preserved
loop-edge-preserved c =
    let none : Edge = record { from = 0; lead = record { first = 0; last = 0; to = 0 } } in
    let more = take_more c.args.edges.now c.loop-edge.edge-index none c.loop-edge-test.true in
    grind (arith, any-push, not_above, same_both)
