use Rattle.std.proofs.Common.{inl, inr, arith}
use Rattle.address_prefixes.proofs.Blocks.{double, found, halve}
use Rattle.address_prefixes.proofs.prefix.free_bits.Goals as goal

pub loop-free-preserved : goal.loop-free-preserved
loop-free-preserved c = grind (arith, double, halve)

pub returns-else-spare-room : goal.returns-else-spare-room
returns-else-spare-room c = grind (arith, found)

pub returns-else-block-eq0 : goal.returns-else-block-eq0
returns-else-block-eq0 c =
    let i = c.loop-free.invariant in
    found c.loop-free.block c.loop-free.spare c.requires i.0 i.1 i.2 (omega arith) (inr (inl c.if-block-eq0.false))

pub returns-after-loop-free : goal.returns-after-loop-free
returns-after-loop-free c =
    let i = c.loop-free.invariant in
    found c.loop-free.block c.loop-free.spare c.requires i.0 i.1 i.2 (omega arith) (inl (omega arith))
