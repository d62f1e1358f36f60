use Rattle.std.proofs.Common.{arith}
use Rattle.std.proofs.lemmas.Bool.Decides.{nat_tests}
use Rattle.lexing_classes.specs.Leads.{LeadsBy}
use Rattle.lexing_classes.proofs.Any.{any-push}
use Rattle.lexing_classes.proofs.leads.add_piece.Goals as goal

pub returns-in_ok-push-clause-members : goal.returns-in_ok-push-clause-members
returns-in_ok-push-clause-members c =
    λ d q. grind (arith, any-push (LeadsBy d q) _ _ _ c.in_ok-push.ensures.items)

pub returns-in_ok-push-clause-count : goal.returns-in_ok-push-clause-count
returns-in_ok-push-clause-count c = grind (arith, nat_tests)
