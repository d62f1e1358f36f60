use Rattle.std.proofs.Common.{refl, inl, codes}
use Rattle.line_program.proofs.Listing.{on_ok_as}
use Rattle.rangerun.proofs.saving.load.Goals as goal

pub returns-in-Ok : goal.returns-in-Ok
returns-in-Ok g c =
    on_ok_as c.write_all.result _ _
    (λ appended. (codes "ok\n", inl (refl, c.in-Ok.ensures.loaded), appended))
    c.write_all.ensures.bytes
