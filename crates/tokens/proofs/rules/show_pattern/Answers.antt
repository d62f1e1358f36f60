use Rattle.line_program.proofs.Listing.{appends_then, on_ok_as}
use Rattle.tokens.proofs.rules.show_pattern.Goals as goal

pub returns-in_ok-writeln-in-Syntax : goal.returns-in_ok-writeln-in-Syntax
returns-in_ok-writeln-in-Syntax g c =
    on_ok_as c.mark.result _ _
    (λ marked. (_, tt, appends_then _ _ _ _ _ c.in_ok-writeln-in-Syntax.ensures.bytes marked))
    c.mark.ensures
