use Rattle.std.proofs.Common.{refl, subst}
use Rattle.std.proofs.lemmas.Result.{on_ok_weaker}
use Rattle.btree_range_map.specs.Range.{IsEmptyRange}
use Rattle.btree_range_map.specs.References.{range_of}
use Rattle.rangerun.proofs.Spans.{clone_same}
use Rattle.rangerun.proofs.reply.write_gap.Goals as goal

pub ends-requires : goal.ends-requires
ends-requires g c =
    let same = clone_same g.K.Clone.is_clone g.met.K.SpelledKey.clones_are_same
    (range_of c.args.gap) c.in_ok-range.range c.in_ok-range.ensures in
    subst (λ r. ¬ IsEmptyRange g.K.MaybeBounded.order r) same c.requires

pub returns : goal.returns
returns g c =
    let same = clone_same g.K.Clone.is_clone g.met.K.SpelledKey.clones_are_same
    (range_of c.args.gap) c.in_ok-range.range c.in_ok-range.ensures in
    let span = c.in_ok-span.span in on_ok_weaker c.write_span.result
    (λ appended. (_, (span.0, span.1, rw same c.in_ok-span.ensures, refl), appended))
    c.write_span.ensures
