use Rattle.std.proofs.Common.{refl}
use Rattle.address_lines.specs.Words.{Counts, HoldsAddress, ends_word}
use Rattle.address_lines.proofs.Pieces.{found_first, last_tells, not_told, others_left}
use Rattle.address_lines.proofs.words.holds_address.Goals as goal

pub returns-then-counts : goal.returns-then-counts
returns-then-counts c =
    let list = c.args.list.now in (
      λ t. found_first ends_word (Counts list) (HoldsAddress list c.args.line.now)
          c.words.rest.now c.in-Some.word.now c.words.invariant c.in-Some.ensures.0
          c.in-Some.ensures.1 (c.counts.ensures.0 c.if-counts.true),
      λ has. refl,
    )

pub words-preserved : goal.words-preserved
words-preserved c =
    let list = c.args.list.now in
    others_left ends_word (Counts list) (HoldsAddress list c.args.line.now) c.words.rest.now
    c.in-Some.word.now c.in-Some.more.now c.words.invariant c.in-Some.ensures.0
    c.in-Some.ensures.1 c.in-Some.ensures.2
    (not_told c.counts.result c.if-counts.false c.counts.ensures)

pub returns : goal.returns
returns c =
    let list = c.args.list.now in
    last_tells ends_word (Counts list) (HoldsAddress list c.args.line.now) c.words.rest.now
    c.counts-2.result c.words.invariant c.in_default.ensures c.counts-2.ensures
