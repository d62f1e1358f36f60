use Rattle.std.proofs.Common.{arith}
use Rattle.address_text.proofs.Places.{last_found, line_counted, none_counted, place_found}
use Rattle.address_text.proofs.place.place_in.Goals as goal

pub lines-init : goal.lines-init
lines-init c = grind (arith, none_counted)

pub lines-preserved : goal.lines-preserved
lines-preserved c =
    let some = c.lines.invariant.0 in (
      omega (arith, some),
      line_counted c.args.text.now c.lines.rest.now c.in-Some.more.now c.lines.number some
          c.lines.invariant.1 c.in-Some.ensures.0 c.in-Some.ensures.2,
    )

pub returns-then-number-line : goal.returns-then-number-line
returns-then-number-line c = grind (arith, place_found)

pub returns : goal.returns
returns c = grind (arith, last_found)
