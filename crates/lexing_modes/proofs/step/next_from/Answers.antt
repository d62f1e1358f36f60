use Rattle.std.proofs.Common.{refl, arith}
use Rattle.lexing_modes.specs.States.{state_of}
use Rattle.lexing_modes.proofs.TokenLists.{left_out_more}
use Rattle.lexing_modes.proofs.step.next_from.Goals as goal

pub loop-cursor-preserved : goal.loop-cursor-preserved
loop-cursor-preserved g c =
    let was = c.loop-cursor.invariant in
    let taken = c.take_token.ensures in
    record {
      state = taken.state;
      further = omega (arith, taken.further);
      skipped = left_out_more g.S.Scanner.lexer c.args.modes.now c.args.text.now
          g.S.Scanner.may_refuse (state_of c.args.cursor.now) (state_of c.loop-cursor.cursor)
          c.in-Ok.found (state_of c.take_token.new.cursor) was.skipped c.in-Ok.ensures.taken
          (c.if-not-is_left_out.ensures.0 refl);
    }
