use Rattle.std.proofs.Common.{Ok, ◌++◌, ap, rules, sym, ◌∙◌}
use Rattle.address_lists.specs.Files.{mark}
use Rattle.address_lists.specs.declared.file.Start.{Start}
use Rattle.address_lists.proofs.Blanks.{blank_more, blank_none, blank_to_end, start_found}
use Rattle.address_lists.proofs.file.start_of.Goals as goal

pub loop-number-init : goal.loop-number-init
loop-number-init g c =
    blank_none (g.R.Read.remaining c.args.input.now) c.new-blanks.result.items
    c.new-blanks.ensures.items

pub returns-then-not-branch-clause-found : goal.returns-then-not-branch-clause-found
returns-then-not-branch-clause-found g c =
    blank_to_end (g.R.Read.remaining c.args.input.now) (g.R.Read.remaining c.loop-number.input)
    (g.R.Read.remaining c.next_line.new.input) c.loop-number.blanks.items c.loop-number.number
    c.loop-number.invariant (c.in_ok-next_line.ensures.ended (ap Ok c.if-not-branch.true))

pub returns-in-Some-clause-found : goal.returns-in-Some-clause-found
returns-in-Some-clause-found g c =
    let start : Start = record {
      blanks = c.loop-number.blanks;
      line = c.next_line.new.line;
      number = c.loop-number.number;
      mark = c.in-Some.mark;
    } in
    start_found (g.R.Read.remaining c.args.input.now) (g.R.Read.remaining c.loop-number.input)
    (g.R.Read.remaining c.next_line.new.input) start c.loop-number.invariant
    (c.in_ok-next_line.ensures.read (ap Ok c.if-not-branch.false))
    (ap mark (sym c.as_slice.ensures.value) ∙ sym c.mark_of.ensures ∙ c.in-Some.is)

pub loop-number-preserved : goal.loop-number-preserved
loop-number-preserved g c =
    blank_more (g.R.Read.remaining c.args.input.now) (g.R.Read.remaining c.loop-number.input)
    (g.R.Read.remaining c.next_line.new.input) c.loop-number.blanks.items
    c.next_line.new.line.items c.keep.new.kept.items c.loop-number.number c.loop-number.invariant
    (c.in_ok-next_line.ensures.read (ap Ok c.if-not-branch.false))
    (ap mark (sym c.as_slice.ensures.value) ∙ sym c.mark_of.ensures ∙ search rules)
    (c.in_ok-keep.ensures.kept ∙ ap (λ t. c.loop-number.blanks.items ++ t)
    c.as_slice-in-loop-number.ensures.value)
