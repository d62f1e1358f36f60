use Rattle.std.proofs.Common.{refl}
use Rattle.line_program.proofs.Listing.{appends_then, on_ok_as}
use Rattle.tokens.proofs.fault.show_fault.Goals as goal

pub returns : goal.returns
returns g c =
    on_ok_as c.mark.result _ _
    (λ marked. (
      _,
      (_, _, c.last_line-before.ensures, c.first_line-behind.ensures, refl),
      appends_then _ _ _ _ _
          (appends_then _ _ _ _ _ c.in_ok-show_place.ensures c.in_ok-show_parts.ensures)
          marked,
    ))
    c.mark.ensures
