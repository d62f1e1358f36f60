use Rattle.address_lists.specs.Waiting.{HasSoFar}
use Rattle.cidr.proofs.Commands.{all_counted, uncounted, unread_one}
use Rattle.cidr.proofs.serve.gather.Goals as goal

pub returns-in-Ok-clause-read : goal.returns-in-Ok-clause-read
returns-in-Ok-clause-read g c =
    all_counted c.args.reading (g.R.Read.remaining c.args.source.reader) c.args.left_out.now.items
    c.count.new.left_out.items (HasSoFar c.args.list.now c.args.waiting.now)
    (HasSoFar c.gather_addresses.new.list c.gather_addresses.new.waiting) c.in-Ok.others
    c.count.result c.in-Ok.ensures.read c.count.ensures.counted

pub returns-in-Ok-clause-bad : goal.returns-in-Ok-clause-bad
returns-in-Ok-clause-bad g c =
    uncounted c.args.reading (g.R.Read.remaining c.args.source.reader) c.args.source.name
    c.count.result c.count.ensures.memory

pub returns-in-Err-clause-bad : goal.returns-in-Err-clause-bad
returns-in-Err-clause-bad g c =
    unread_one c.args.reading (g.R.Read.remaining c.args.source.reader) c.args.source.name
    c.in-Err.error c.in-Err.ensures.fault
