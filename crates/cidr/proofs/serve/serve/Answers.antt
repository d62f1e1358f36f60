use Rattle.std.proofs.Common.{List, ap, subst}
use Rattle.std.proofs.lemmas.Result.{err_from_is_err_and}
use Rattle.std.specs.Prelude.{map}
use Rattle.cidr.specs.Commands.{IsAnswer}
use Rattle.cidr.specs.Shown.{Kept}
use Rattle.cidr.specs.declared.serve.Source.{Source}
use Rattle.cidr.proofs.Commands.{AreUnread, nothing_unread, unprinted}
use Rattle.cidr.proofs.Kept.{kept_answer}
use Rattle.cidr.proofs.Limits.{answer_within}
use Rattle.cidr.proofs.serve.serve.Goals as goal

pub returns-clause-printed : goal.returns-clause-printed
returns-clause-printed g c =
    let numbers = c.args.left_out.now.items in
    let later = c.answered.new.left_out.items in
    answer_within c.args.reading (λ lists. Kept c.args.output.now.only (IsAnswer c.args.command lists))
    c.args.output.now _ _ numbers later c.kept.result (g.W.Write.contents c.args.out.now)
    (g.W.Write.contents c.print_within.new.out) c.print_within.result
    (ap (map (λ (s : Source _). g.R.Read.remaining s.reader)) c.into_iter.ensures.rest)
    (kept_answer c.args.reading c.args.command c.args.output.now.only _ numbers later c.in_ok-list.list
    c.kept.result c.in_ok-list.ensures.made c.kept.ensures)
    c.print_within.ensures.printed

pub returns-clause-silent : goal.returns-clause-silent
returns-clause-silent g c = c.print_within.ensures.silent

pub returns-clause-bad : goal.returns-clause-bad
returns-clause-bad g c = unprinted c.args.reading _ _ c.print_within.result c.print_within.ensures.failed

pub returns-in_err-list-clause-bad : goal.returns-in_err-list-clause-bad
returns-in_err-list-clause-bad g c =
    let error = err_from_is_err_and c.from_residual.result c.from_residual.ensures.1 in
    rw (error.1, error.2)
    (subst (λ (all : List (Source _)). AreUnread c.args.reading
    (map (λ (s : Source _). g.R.Read.remaining s.reader) all) (map (λ (s : Source _). s.name) all)
    c.in_err-list.field-0.0)
    c.into_iter.ensures.rest c.in_err-list.ensures.bad)

pub returns-clause-unread : goal.returns-clause-unread
returns-clause-unread g c = nothing_unread g.R.LineRead.fails c.print_within.result c.print_within.ensures.failed
