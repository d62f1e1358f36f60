use Rattle.std.proofs.Common.{inl, inr, refl, rules}
use Rattle.range_merge.proofs.AskedPieces.{asked_of_piece, parts_of_both, comes_next, one_ends, next_askable}
use Rattle.range_merge.proofs.asking.ask_pieces.Goals as goal

pub ask_both-requires : goal.ask_both-requires
ask_both-requires g c = asked_of_piece g.K.MaybeBounded.order c.requires

pub first_of_both-next-requires : goal.first_of_both-next-requires
first_of_both-next-requires g c =
    let both =
    parts_of_both g.K.MaybeBounded.order c.requires c.in-Some-Some.is-0 c.in-Some-Some.is-1 in
    record { part = both.0; other = both.1; alike = both.2 }

pub ask_both-requires-in-Some-Some : goal.ask_both-requires-in-Some-Some
ask_both-requires-in-Some-Some g c =
    let order = g.K.MaybeBounded.order in
    asked_of_piece order (next_askable order c.requires c.in-Some-Some.is-0 c.in-Some-Some.is-1 _
    c.first_of_both-next.ensures)

pub returns-in_err-ask_both-in-Some-Some-clause-closure :
    goal.returns-in_err-ask_both-in-Some-Some-clause-closure
returns-in_err-ask_both-in-Some-Some-clause-closure g c e failed =
    inr (
      c.first_of_both-next.result,
      c.ask_both.new.answers.items,
      comes_next g.K.MaybeBounded.order c.requires c.in-Some-Some.is-0 c.in-Some-Some.is-1 _
          c.first_of_both-next.ensures,
      c.in_ok-ask_both.ensures.ok,
      c.ask_both-in-Some-Some.ensures.closure e (search rules),
    )

pub returns-in_ok-ask_both-in-Some-Some-clause-ok :
    goal.returns-in_ok-ask_both-in-Some-Some-clause-ok
returns-in_ok-ask_both-in-Some-Some-clause-ok g c =
    let order = g.K.MaybeBounded.order in (
      inr (
        c.first_of_both-next.result,
        c.ask_both.new.answers.items,
        comes_next order c.requires c.in-Some-Some.is-0 c.in-Some-Some.is-1 _
            c.first_of_both-next.ensures,
        c.in_ok-ask_both.ensures.ok,
        (c.in_ok-ask_both-in-Some-Some.ensures.ok, refl, refl),
      ),
      one_ends order c.requires c.in-Some-Some.is-0 c.in-Some-Some.is-1 _
          c.first_of_both-next.ensures,
    )

pub returns-in_err-ask_both-in-Some-Some-clause-memory :
    goal.returns-in_err-ask_both-in-Some-Some-clause-memory
returns-in_err-ask_both-in-Some-Some-clause-memory g c failed =
    let said = c.ask_both-in-Some-Some.ensures.memory (search rules) in (
      said.0,
      inr (
        c.first_of_both-next.result,
        c.ask_both.new.answers.items,
        comes_next g.K.MaybeBounded.order c.requires c.in-Some-Some.is-0 c.in-Some-Some.is-1 _
            c.first_of_both-next.ensures,
        c.in_ok-ask_both.ensures.ok,
        said.1,
      ),
    )

pub returns-in_err-ask_both-clause-closure : goal.returns-in_err-ask_both-clause-closure
returns-in_err-ask_both-clause-closure g c e failed =
    inl (c.ask_both.ensures.closure e (search rules))

pub returns-in_err-ask_both-clause-memory : goal.returns-in_err-ask_both-clause-memory
returns-in_err-ask_both-clause-memory g c failed =
    let said = c.ask_both.ensures.memory (search rules) in (said.0, inl said.1)
