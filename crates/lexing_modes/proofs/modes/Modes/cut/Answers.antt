use Rattle.std.proofs.Common.{sym}
use Rattle.std.proofs.lemmas.Str.{IsCharBoundary-start}
use Rattle.lexing_modes.specs.Modes.{mode_count}
use Rattle.lexing_modes.specs.States.{first_state, state_of}
use Rattle.lexing_modes.proofs.StateSteps.{first_is_state}
use Rattle.lexing_modes.proofs.TokenLists.{reason_of, tokens_more}
use Rattle.lexing_modes.proofs.modes.Modes.cut.Goals as goal

pub loop-cursor-init : goal.loop-cursor-init
loop-cursor-init g c = record {
  state = rw c.new-cursor.ensures
      (first_is_state (mode_count c.args.self.now) c.args.text.now c.args.self.now.some
      (IsCharBoundary-start c.args.text.now c.utf8.text));
  tokens = rw c.new-tokens.ensures.items (sym c.new-cursor.ensures);
}

pub returns-in-Err-clause-stuck : goal.returns-in-Err-clause-stuck
returns-in-Err-clause-stuck g c =
    reason_of g.S.Scanner.lexer c.args.self.now c.args.text.now g.S.Scanner.may_refuse
    c.loop-cursor.tokens.items (state_of c.loop-cursor.cursor) c.in-Err.error
    (state_of c.take_token.new.cursor) c.loop-cursor.invariant.tokens c.in-Err.ensures.taken

pub loop-cursor-preserved : goal.loop-cursor-preserved
loop-cursor-preserved g c = record {
  state = c.take_token.ensures.state;
  tokens = rw c.in_ok-push.ensures.items
      (tokens_more g.S.Scanner.lexer c.args.self.now c.args.text.now first_state
      c.loop-cursor.tokens.items (state_of c.loop-cursor.cursor) c.in-Ok.found
      (state_of c.take_token.new.cursor) c.loop-cursor.invariant.tokens c.in-Ok.ensures.taken);
}
