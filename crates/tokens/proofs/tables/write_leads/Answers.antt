use Rattle.std.proofs.Common.{refl, length, arith}
use Rattle.std.proofs.lemmas.Option.{slice_get_read}
use Rattle.tokens.specs.TableTexts.{lead_text}
use Rattle.tokens.proofs.TableLines.{flat_all, flat_more}
use Rattle.tokens.proofs.tables.write_leads.Goals as goal

pub loop-at-preserved : goal.loop-at-preserved
loop-at-preserved g c =
    let xs = c.args.state.now.leads.items in
    let x = c.index.result.now in
    let there = slice_get_read xs (length xs) c.loop-at.at x refl (omega arith) c.index.ensures in
    flat_more (lead_text c.args.language.now) xs c.loop-at.at x _ _ _ there c.loop-at.invariant
    c.in_ok-write_lead.ensures

pub returns : goal.returns
returns g c =
    flat_all (lead_text c.args.language.now) c.args.state.now.leads.items c.loop-at.at _ _ (omega arith)
    c.loop-at.invariant
