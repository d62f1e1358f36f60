use Rattle.std.proofs.lemmas.Str.{IsCharBoundary-start}
use Rattle.lexing_modes.specs.Modes.{mode_count}
use Rattle.lexing_modes.proofs.Giving.{given_by_calls}
use Rattle.lexing_modes.proofs.StateSteps.{first_is_state}
use Rattle.lexing_modes.proofs.modes.Modes.tokens.Goals as goal

pub invariant_of-result : goal.invariant_of-result
invariant_of-result g c = record {
  state = rw c.new.ensures
      (first_is_state (mode_count c.args.self.now) c.args.text.now c.args.self.now.some
      (IsCharBoundary-start c.args.text.now c.utf8.text));
}

pub returns-clause-whole : goal.returns-clause-whole
returns-clause-whole g c = λ items last calls.
    rw c.new.ensures at
    (given_by_calls g.S.Scanner.lexer g.S.Scanner.may_refuse items _ last calls)
