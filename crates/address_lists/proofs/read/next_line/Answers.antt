use Rattle.std.proofs.Common.{Ok, ◌++◌, ap, ◌∙◌}
use Rattle.address_lists.proofs.Shown.{start_read}
use Rattle.address_lists.proofs.read.next_line.Goals as goal

pub returns-clause-read : goal.returns-clause-read
returns-clause-read g c = λ read.
    start_read c.next_bytes.new.start c.in-Some.shown.now c.in-Some.ensures.first
    c.in-Some.ensures.shown (g.R.Read.remaining c.args.input.now)
    (g.R.Read.remaining c.next_bytes.new.self) (g.R.Read.remaining c.skip_line.new.self)
    c.keep.new.kept.items (c.in_ok-next_bytes.ensures.shown (ap Ok c.if-branch.true))
    c.next_bytes.ensures.kept
    (c.in_ok-keep.ensures.kept ∙ ap (λ text. text ++ c.in-Some.shown.now) c.clear.ensures.items)
    c.in_ok-skip_line.ensures.skipped
