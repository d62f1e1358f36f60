use Rattle.std.proofs.Common.{◌<◌, length}
use Rattle.address_tables.specs.Numbers.{IsNamed}
use Rattle.address_tables.proofs.Lists.{every_at, zip_next}
use Rattle.address_tables.proofs.shortest_prefixes.entries_of.Goals as goal
use Rattle.shortest_tables.specs.Entries.{IsBlock}

pub entry_of-requires-clause-block : goal.entry_of-requires-clause-block
entry_of-requires-clause-block g c =
    every_at (IsBlock g.A.Address.WIDTH) c.args.numbered.now c.loop-entry.entry-index
    (record { network = 0; length = 0; value = 0 }) c.requires.blocks c.loop-entry-test.true

pub loop-entry-preserved : goal.loop-entry-preserved
loop-entry-preserved g c =
    rw c.in_ok-push.ensures.items
    (zip_next (IsNamed g.A.Address.at g.A.Address.WIDTH c.args.values.now) c.args.numbered.now
    c.loop-entry.entry-index (record { network = 0; length = 0; value = 0 }) c.loop-entry.entries.items
    c.entry_of.result c.loop-entry.invariant c.loop-entry-test.true c.entry_of.ensures)
