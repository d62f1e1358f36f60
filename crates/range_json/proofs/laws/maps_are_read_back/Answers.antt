use Rattle.std.proofs.Common.{sym, subst, ◌∙◌, map}
use Rattle.std.specs.Cmp.{Equal-is}
use Rattle.range_json.specs.Shapes.{pair_shape, range_shape}
use Rattle.range_json.specs.MapFaults.{IsFirstFault}
use Rattle.range_json.specs.SetReadBack.{list_back}
use Rattle.range_json.proofs.ReadingBack.{map_back, map_sound}
use Rattle.range_json.proofs.laws.maps_are_read_back.Goals as goal

pub returns-clause-sound : goal.returns-clause-sound
returns-clause-sound g c =
    let order = g.K.MaybeBounded.order in
    let key_back =
    λ (x : g.row.K.Denot) (y : g.row.K.Denot) (v : g.K.Json.is_value x)
    (read : g.K.Json.is_read (g.K.Json.shape x) y).
    sym (g.met.K.MaybeBounded.order_is_cmp x y)
    ∙ (Equal-is (g.K.Ord.cmp x y)).0
    (sym (g.met.K.Ord.matches_eq x y) ∙ g.met.K.ReadsBack.reads_back x y v read) in
    λ items v stored e fault.
    map_sound order g.K.Json.shape g.K.Json.reads g.K.Json.is_value g.K.Json.is_read key_back
    g.met.K.ReadsBack.reads_written g.met.K.PartialEnum.lawful g.V.PartialEq.eq g.met.V.Eq.laws
    g.V.Json.shape g.V.Json.reads g.V.Json.is_value g.V.Json.is_read
    g.met.V.ReadsBack.reads_back g.met.V.ReadsBack.reads_written items v stored e
    (subst (λ ds.
    IsFirstFault order g.K.Json.reads g.V.Json.reads g.K.Json.is_read g.V.Json.is_read ds
    e)
    (list_back
    (map (λ i. pair_shape (range_shape g.K.Json.shape i.key) (g.V.Json.shape i.value)) items))
    fault)

pub returns-clause-equal : goal.returns-clause-equal
returns-clause-equal g c =
    let order = g.K.MaybeBounded.order in
    let key_back =
    λ (x : g.row.K.Denot) (y : g.row.K.Denot) (v : g.K.Json.is_value x)
    (read : g.K.Json.is_read (g.K.Json.shape x) y).
    sym (g.met.K.MaybeBounded.order_is_cmp x y)
    ∙ (Equal-is (g.K.Ord.cmp x y)).0
    (sym (g.met.K.Ord.matches_eq x y) ∙ g.met.K.ReadsBack.reads_back x y v read) in
    map_back order g.K.Json.shape g.K.Json.reads g.K.Json.is_value g.K.Json.is_read key_back
    g.met.K.PartialEnum.lawful g.V.PartialEq.eq g.met.V.Eq.laws g.V.Json.shape g.V.Json.is_value
    g.V.Json.is_read g.met.V.ReadsBack.reads_back g.V.Json.reads
