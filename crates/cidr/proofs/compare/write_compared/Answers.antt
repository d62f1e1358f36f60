use Rattle.std.proofs.Common.{◌++◌, refl}
use Rattle.line_program.proofs.Listing.{appends_then, on_ok_as}
use Rattle.cidr.specs.Relations.{relation_text}
use Rattle.cidr.proofs.compare.write_compared.Goals as goal

pub returns : goal.returns
returns g c =
    let word = relation_text c.relation_of.result in
    let first = c.in_ok-write_counts.ensures in
    let before = g.W.Write.contents c.args.out.now in
    let named = g.W.Write.contents c.write_relation.new.out in
    let now = g.W.Write.contents c.write_counts.new.out in
    let next = g.W.Write.contents c.write_counts-2.new.out in
    on_ok_as c.write_counts-2.result _ _ (λ second. (
      word ++ first.0 ++ second.0,
      (c.relation_of.result, first.0, second.0, c.relation_of.ensures, first.1, second.1, refl),
      appends_then before now next (word ++ first.0) second.0
          (appends_then before named now word first.0 c.in_ok-write_relation.ensures first.2)
          second.2,
    )) c.write_counts-2.ensures
