use Rattle.std.proofs.Common.{take, flat_map}
use Rattle.std.specs.Io.KnownBytes.{Appends}
use Rattle.tokens.specs.TableTexts.{lead_text}
use Rattle.tokens.proofs.tables.write_leads.Given as goal

abbrev pub invariant-loop-at : goal.invariant-loop-at
invariant-loop-at g l =
    Appends (g.W.Write.contents l.fn.out) (g.W.Write.contents l.out)
    (flat_map (lead_text l.language) (take l.at l.state.leads.items))
