use Rattle.std.proofs.Common.{ap, ◌∙◌}
use Rattle.std.proofs.lemmas.Result.{IfOk-weaker}
use Rattle.serde_json.specs.Written.{compact_text, has_float}
use Rattle.btree_range_map.specs.Holding.{box_items}
use Rattle.rangerun.proofs.Saved.{map_has_no_float}
use Rattle.rangerun.proofs.saving.map_text.Goals as goal

pub returns : goal.returns
returns g c =
    let written = c.in_ok-value.ensures.written in
    let none = ap has_float written ∙ map_has_no_float g.K.Json.shape
    g.met.K.SpelledKey.has_no_float (box_items c.args.map.now) in
    IfOk-weaker c.to_string.result _ _
    (λ text known. known none ∙ ap compact_text written) c.to_string.ensures.text
