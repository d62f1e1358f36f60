use Rattle.std.proofs.Common.{◌∙◌, ap, arith, sym}
use Rattle.range_keys.specs.Position.{bound_of}
use Rattle.range_algebra.specs.Compared.{flipped}
use Rattle.range_algebra.specs.References.{range_of}
use Rattle.range_sets.proofs.Subtracting.{turned_rest}
use Rattle.range_sets.proofs.set.subtracted.rest_past.Goals as goal

pub returns : goal.returns
returns g c =
    let end = c.end_bound-end.ensures tt in
    let goes = rw end at c.starts_by_end.ensures in
    let branch = c.if-not-starts_by_end.false in
    turned_rest g.met.T.PartialEnum.lawful (range_of c.args.range) c.args.other.now
    c.requires.range c.requires.other (bound_of c.in-Some.start)
    (sym (c.in-Some.ensures ∙ ap flipped end)) c.requires.before (goes.0 (grind arith))
