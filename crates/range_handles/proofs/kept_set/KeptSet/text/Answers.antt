use Rattle.std.proofs.Common.{ap, ◌∙◌}
use Rattle.serde_json.specs.Written.{compact_text, has_float}
use Rattle.btree_range_map.specs.Holding.{box_items}
use Rattle.range_handles.proofs.Floats.{set_has_no_float, if_ok_as}
use Rattle.range_handles.proofs.kept_set.KeptSet.text.Goals as goal

pub returns : goal.returns
returns g c =
    let written = c.in_ok-set_to_json.ensures.written in
    let none =
    ap has_float written
    ∙ set_has_no_float g.K.Json.shape c.requires (box_items c.self.inside.set)
    in
    rw (← c.self.view_is)
    (if_ok_as c.to_vec.result _ _ (λ text known. known none ∙ ap compact_text written)
    c.to_vec.ensures.text)
