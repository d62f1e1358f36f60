use Rattle.std.proofs.Common.{sym, ◌∙◌}
use Rattle.std.specs.Cmp.{Equal-is}
use Rattle.serde_json.specs.Data.{Data}
use Rattle.range_json.proofs.Exact.{no_fault}
use Rattle.range_json.proofs.laws.read_maps_have_no_fault.Goals as goal

pub returns : goal.returns
returns g c =
    let one =
    λ (d : Data) (x : g.row.K.Denot) (y : g.row.K.Denot) (h : g.K.Json.is_read d x)
    (k : g.K.Json.is_read d y).
    sym (g.met.K.MaybeBounded.order_is_cmp x y)
    ∙ (Equal-is (g.K.Ord.cmp x y)).0
    (sym (g.met.K.Ord.matches_eq x y) ∙ g.met.K.ReadsBack.one_reading d x y h k) in
    λ d items e.
    no_fault g.K.MaybeBounded.order g.met.K.PartialEnum.lawful g.K.Json.is_read one g.V.Json.is_read
    g.K.Json.reads g.V.Json.reads g.V.PartialEq.eq d items e
