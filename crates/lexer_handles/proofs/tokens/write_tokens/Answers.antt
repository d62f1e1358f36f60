use Rattle.std.proofs.Common.{◌≡◌, ◌∙◌, None, ap, arith, subst}
use Rattle.std.proofs.lemmas.List.{length_push}
use Rattle.std.specs.Iterator.{YieldsThen}
use Rattle.std.specs.List.{AllByRecursion}
use Rattle.lexing.specs.MachineSteps.{lexer_of}
use Rattle.lexing.specs.Places.{GivesPlaced, IsPlaced}
use Rattle.lexer_handles.proofs.Writing.{each_placed, kept_behind, no_memory, written_more}
use Rattle.lexer_handles.proofs.tokens.write_tokens.Goals as goal

pub parts_of-requires : goal.parts_of-requires
parts_of-requires c =
    no_memory lexer_of c.loop-placed.placed-iterator c.next.new.self c.in-Some.placed c.in-Some.ensures.steps

pub loop-placed-preserved : goal.loop-placed-preserved
loop-placed-preserved c =
    let was = c.loop-placed.invariant in
    record {
      counted = omega (arith, was.counted, length_push c.loop-placed.yielded c.in-Some.placed);
      written = written_more c.loop-placed.tokens c.put.new.tokens c.loop-placed.yielded
          c.in-Some.placed c.parts_of.result c.loop-placed.count was.counted c.parts_of.ensures
          was.written c.put.ensures;
      behind = λ n past.
          kept_behind c.loop-placed.tokens c.put.new.tokens c.parts_of.result c.loop-placed.count n
          (omega arith) c.put.ensures
          ∙ was.behind n (omega arith);
      few = omega (arith, was.few, (c.in-Some.ensures.goes.on tt).2);
    }

pub returns-clause-tokens : goal.returns-clause-tokens
returns-clause-tokens c =
    let items = c.loop-placed.yielded in
    let made = c.placed_tokens-placed-items in
    let same : c.into_iter-placed-iterator.result ≡ made.result = cc in
    let was = c.loop-placed.invariant in (
      items,
      record {
        given = made.ensures.whole items c.next.new.self
            (subst (λ s. YieldsThen (GivesPlaced lexer_of (λ machine. ⊥)) s items None c.next.new.self)
            same (c.loop-placed.placed-iterator, c.loop-placed.yielded_by, c.in-None.ensures.steps));
        placed = subst (λ text. AllByRecursion (IsPlaced text) items)
            (ap (λ s. s.text) same ∙ made.ensures.text)
            (each_placed lexer_of (λ machine. ⊥) items c.into_iter-placed-iterator.result
            c.loop-placed.placed-iterator c.loop-placed.yielded_by);
      },
      was.counted,
      was.written,
    )
