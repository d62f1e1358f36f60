use Rattle.std.proofs.Common.{◌∙◌, ap, arith, sym}
use Rattle.range_keys.specs.Position.{bound_of}
use Rattle.range_algebra.specs.Compared.{flipped}
use Rattle.range_algebra.specs.References.{range_of}
use Rattle.range_sets.proofs.Subtracting.{whole_front, cut_front}
use Rattle.range_sets.proofs.set.subtracted.front_of.Goals as goal

pub returns-then-not-starts_by_end : goal.returns-then-not-starts_by_end
returns-then-not-starts_by_end g c =
    let start = c.start_bound-start.ensures tt in
    let goes = rw start at c.starts_by_end.ensures in
    let branch = c.if-not-starts_by_end.true in
    whole_front g.met.T.PartialEnum.lawful (range_of c.args.range) c.args.other.now
    c.requires.range c.requires.other (λ le. grind (arith, goes.1 le))

pub returns : goal.returns
returns g c =
    let start = c.start_bound-start.ensures tt in
    let by = rw start at c.starts_by.ensures in
    let goes = rw start at c.starts_by_end.ensures in
    let first = c.if-starts_by.false in
    let branch = c.if-not-starts_by_end.false in
    cut_front g.met.T.PartialEnum.lawful (range_of c.args.range) c.args.other.now
    c.requires.range c.requires.other (bound_of c.in-Some.end)
    (sym (c.in-Some.ensures ∙ ap flipped start)) (λ le. grind (arith, by.1 le))
    (goes.0 (grind arith))
