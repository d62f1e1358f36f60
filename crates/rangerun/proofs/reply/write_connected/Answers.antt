use Rattle.std.proofs.lemmas.Result.{on_ok_weaker}
use Rattle.std.specs.Prelude.{codes}
use Rattle.line_program.proofs.Listing.{appends_then}
use Rattle.rangerun.proofs.reply.write_connected.Goals as goal

pub returns : goal.returns
returns g c = on_ok_weaker c.write_part.result
    (appends_then _ _ _ (codes "connected ") _ c.in_ok-write_all.ensures.bytes) c.write_part.ensures
