use Rattle.std.proofs.Common.{arith}
use Rattle.std.proofs.lemmas.Grind.{common_steps}
use Rattle.rangerun.proofs.reply.ends.Goals as goal

pub unreachable-requires : goal.unreachable-requires
unreachable-requires g c =
    let none = rw c.in_default.is at (c.in_ok-first.ensures.complete g.met.K.Complete.complete) in
    c.requires (c.is_empty.ensures.by_position.0
    (c.is_empty.ensures.complete g.met.K.Complete.complete
    (λ key is_key held. g.met.K.SpelledKey.has_least c.args.range.now key is_key held none)))

pub unreachable-requires-in_default-2 : goal.unreachable-requires-in_default-2
unreachable-requires-in_default-2 g c =
    let none = rw c.in_default-2.is at (c.in_ok-last.ensures.complete g.met.K.Complete.complete) in
    c.requires (c.is_empty.ensures.by_position.0
    (c.is_empty.ensures.complete g.met.K.Complete.complete
    (λ key is_key held. g.met.K.SpelledKey.has_greatest c.args.range.now key is_key held none)))

pub returns : goal.returns
returns g c = grind (arith, common_steps)
