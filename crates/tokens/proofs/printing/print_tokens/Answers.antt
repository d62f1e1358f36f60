use Rattle.std.proofs.Common.{◌≡◌, refl, sym, ap, ◌∙◌, Ok}
use Rattle.std.proofs.lemmas.Bool.{and_parts}
use Rattle.tokens.proofs.Written.{begins_here, given_from, printed_more, printed_none}
use Rattle.tokens.proofs.printing.print_tokens.Goals as goal

pub loop-next-init : goal.loop-next-init
loop-next-init g c = record {
  here = c.first-place.ensures;
  printed = printed_none c.args.printer.now.modes.now c.args.printer.now.form c.args.text.now _;
  silent = λ whole. refl;
}

pub print_next-requires : goal.print_next-requires
print_next-requires g c =
    record {
      here = begins_here c.args.text.now c.in-Some.next c.in_ok-start.start _ c.in_ok-start.ensures
          c.in_ok-place.ensures;
    }

pub loop-next-preserved : goal.loop-next-preserved
loop-next-preserved g c =
    let was = c.loop-next.invariant in
    let is_one = c.in_ok-is_one.is_one in
    record {
      here = c.in_ok-place.ensures;
      printed = printed_more c.args.printer.now.modes.now c.args.printer.now.form c.args.text.now
          c.loop-next.is_whole is_one c.both-is_whole.result c.loop-next.yielded c.in-Some.next _ _ _
          was.printed c.both-is_whole.ensures c.in_ok-is_one.ensures.printed.0
          c.in_ok-is_one.ensures.printed.1;
      silent = λ whole.
          let parts =
          and_parts c.loop-next.is_whole is_one (sym c.both-is_whole.ensures ∙ whole) in
          c.in_ok-is_one.ensures.silent (ap Ok parts.1) ∙ was.silent parts.0;
    }

pub returns-clause-printed : goal.returns-clause-printed
returns-clause-printed g c =
    let same : c.into_iter-next-iterator.result ≡ c.tokens-next-items.result = cc in
    let was = c.loop-next.invariant.printed in (
      was.written,
      (
        c.loop-next.yielded,
        given_from c.args.printer.now.modes.now c.args.text.now c.tokens-next-items.result
            c.into_iter-next-iterator.result c.next.new.self c.loop-next.yielded same c.tokens-next-items.ensures.whole
            (c.loop-next.next-iterator, c.loop-next.yielded_by, c.in-None.ensures.steps),
        was.whole,
        was.spells,
      ),
      was.appended,
    )
