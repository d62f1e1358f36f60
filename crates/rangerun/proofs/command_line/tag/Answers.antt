use Rattle.std.proofs.Common.{rules, ◌≢◌}
use Rattle.std.specs.Prelude.{codes}
use Rattle.std.proofs.Math.Facts.{to_z-of_z}
use Rattle.rangerun.proofs.Spelled.{if_none}
use Rattle.rangerun.proofs.TagWords.{none_alone, none_named, none_of_set, none_of_fill, none_of_fail}
use Rattle.rangerun.proofs.command_line.tag.Goals as goal

pub returns-in_err-word-clause-none : goal.returns-in_err-word-clause-none
returns-in_err-word-clause-none c =
    let other : c.args.text.now ≢ codes "clear" = search rules in
    if_none c.from_residual.result _ (none_alone c.args.text.now c.in_err-word.ensures other)

pub returns-in_err-value-in-set-clause-none : goal.returns-in_err-value-in-set-clause-none
returns-in_err-value-in-set-clause-none c = if_none c.from_residual-in_err-value-in-set.result _
    (none_of_set _ _ (rw c.in-set.is at c.in_ok-word.ensures.0) c.in_err-value-in-set.ensures.none)

pub returns-in_err-value-in-fill-clause-none : goal.returns-in_err-value-in-fill-clause-none
returns-in_err-value-in-fill-clause-none c = if_none c.from_residual-in_err-value-in-fill.result _
    (none_of_fill _ _ (rw c.in-fill.is at c.in_ok-word.ensures.0)
    c.in_err-value-in-fill.ensures.none)

pub returns-in_err-value-in-fail-clause-none : goal.returns-in_err-value-in-fail-clause-none
returns-in_err-value-in-fail-clause-none c = if_none c.from_residual-in_err-value-in-fail.result _
    (none_of_fail _ _ (rw c.in-fail.is at c.in_ok-word.ensures.0)
    c.in_err-value-in-fail.ensures.none)

pub returns-in_ok-value-in-fail-clause-found : goal.returns-in_ok-value-in-fail-clause-found
returns-in_ok-value-in-fail-clause-found c =
    let found = c.in_ok-value-in-fail.ensures.found in
    rw (to_z-of_z found.2.0, to_z-of_z found.3.0)
    (c.in_ok-word.fields.now, found, rw c.in-fail.is at c.in_ok-word.ensures.0)

pub returns-in_default-clause-none : goal.returns-in_default-clause-none
returns-in_default-clause-none c =
    let other : c.args.text.now ≢ codes "clear" = search rules in
    none_named c.args.text.now c.in_ok-word.word.now c.in_ok-word.fields.now c.in_ok-word.ensures
    other c.in_default.not-set c.in_default.not-fill c.in_default.not-fail

pub returns-in_ok-value-in-set-clause-found : goal.returns-in_ok-value-in-set-clause-found
returns-in_ok-value-in-set-clause-found c = search rules
