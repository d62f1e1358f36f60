use Rattle.std.proofs.Common.{ap, Ok, subst, sym, arith, ◌≡◌, ℕ, List, [], Some}
use Rattle.std.proofs.lemmas.Option.{IfSome_then}
use Rattle.address_lines.specs.Found.{IsSought}
use Rattle.line_program.specs.Lines.{IsLineRead}
use Rattle.address_lines.proofs.Found.{all_searched, line_searched, one_at_most, searched_so_far}
use Rattle.address_lines.proofs.grep.search_lines.Goals as goal

pub loop-number-preserved : goal.loop-number-preserved
loop-number-preserved g c =
    let IsSuch = IsSought c.args.list.now c.args.search.is_inverted in
    let left = g.R.Read.remaining c.loop-number.input in
    let later = g.R.Read.remaining c.next_line.new.self in (
      let few = c.loop-number.invariant.0 in
          let added = c.from-count.ensures in
          omega (arith, few, added, one_at_most c.in-Ok.found),
      line_searched IsSuch c.args.search.showing c.args.before.now
          (g.R.Read.remaining c.args.input.now) left later (g.W.Write.contents c.args.out.now)
          (g.W.Write.contents c.loop-number.out) (g.W.Write.contents c.search_line.new.out)
          c.loop-number.number c.loop-number.count c.from-count.result c.as_slice.result.now
          c.in-Ok.found c.from-count.ensures c.loop-number.invariant.1
          (subst (IsLineRead left later)
          (sym c.as_slice.ensures.value)
          (c.in-Ok-true.ensures.read (ap Ok c.in-Ok-true.field-0-test)))
          c.in-Ok.ensures.found c.in-Ok.ensures.written,
    )

pub returns-in-Ok-false-clause-found : goal.returns-in-Ok-false-clause-found
returns-in-Ok-false-clause-found g c =
    all_searched (IsSought c.args.list.now c.args.search.is_inverted) c.args.search.showing
    c.args.before.now (g.R.Read.remaining c.args.input.now)
    (g.R.Read.remaining c.loop-number.input) (g.W.Write.contents c.args.out.now)
    (g.W.Write.contents c.loop-number.out) c.loop-number.number c.loop-number.count
    c.loop-number.invariant.1
    (IfSome_then _ (c.in-Ok-false.ensures.ended (ap Ok c.in-Ok-false.field-0-test))
    (λ (bytes : List ℕ) (none : (bytes ≡ []) × (g.R.Read.remaining c.next_line.new.self ≡ Some [])).
    none.0))

pub returns-in-Err-clause-halted : goal.returns-in-Err-clause-halted
returns-in-Err-clause-halted g c = λ other.
    searched_so_far (IsSought c.args.list.now c.args.search.is_inverted) c.args.search.showing
    c.args.before.now (g.R.Read.remaining c.args.input.now)
    (g.R.Read.remaining c.loop-number.input) (g.W.Write.contents c.args.out.now)
    (g.W.Write.contents c.loop-number.out) c.loop-number.number c.loop-number.count
    c.loop-number.invariant.1

pub returns-clause-halted : goal.returns-clause-halted
returns-clause-halted g c = λ other.
    searched_so_far (IsSought c.args.list.now c.args.search.is_inverted) c.args.search.showing
    c.args.before.now (g.R.Read.remaining c.args.input.now)
    (g.R.Read.remaining c.loop-number.input) (g.W.Write.contents c.args.out.now)
    (g.W.Write.contents c.loop-number.out) c.loop-number.number c.loop-number.count
    c.loop-number.invariant.1
