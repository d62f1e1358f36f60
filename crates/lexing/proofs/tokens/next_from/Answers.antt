use Rattle.std.proofs.Common.{refl, arith}
use Rattle.lexing.proofs.TokenLists.{skipped_more, token_boundary, token_further}
use Rattle.lexing.proofs.tokens.next_from.Goals as goal

pub loop-at-preserved : goal.loop-at-preserved
loop-at-preserved g c =
    let lexer = g.S.Scanner.lexer c.args.scanner.now in
    let text = c.args.text.now in
    let was = c.loop-at.invariant in
    let token = c.in-Ok.token in
    record {
      boundary = token_boundary lexer text c.loop-at.at token was.boundary.0 c.in-Ok.ensures;
      further = omega (arith, token_further lexer text c.loop-at.at token c.in-Ok.ensures);
      skipped = skipped_more lexer text c.args.start c.loop-at.at token was.skipped c.in-Ok.ensures
          (c.if-not-is_skipped.ensures.0 refl);
    }

pub returns-in-Err-NoToken-clause-next : goal.returns-in-Err-NoToken-clause-next
returns-in-Err-NoToken-clause-next g c =
    let (same, none) = rw c.in-Err-NoToken.field-0-is at c.in-Err-NoToken.ensures in
    rw same (c.loop-at.invariant.skipped, (omega arith, none), c.behind_one.ensures.one)
