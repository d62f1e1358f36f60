use Rattle.std.proofs.Common.{arith}
use Rattle.std.proofs.lemmas.Bool.Decides.{nat_tests}
use Rattle.std.proofs.lemmas.Result.{on_ok_weaker}
use Rattle.lexing_classes.proofs.leads.add_range.Goals as goal

pub returns-clause-members : goal.returns-clause-members
returns-clause-members c =
    on_ok_weaker c.add_piece-2.result
    (λ high d q scalar. grind (arith, nat_tests, high d q, c.in_ok-add_piece.ensures.members d q))
    c.add_piece-2.ensures.members

pub returns-clause-one : goal.returns-clause-one
returns-clause-one c =
    on_ok_weaker c.add_piece-2.result
    (λ high d q has. grind (arith, high d q, c.in_ok-add_piece.ensures.members d q)) c.add_piece-2.ensures.members
