use Rattle.std.proofs.Common.{◌≡◌, sym, ◌∙◌}
use Rattle.std.specs.Cmp.{Equal-is}
use Rattle.std.specs.declared.cmp.Ordering.TheVariants.{Equal}
use Rattle.range_algebra.specs.Clones.{range_clone}
use Rattle.range_json.proofs.ReadingBack.{range_sound, bounds_back}
use Rattle.range_json.proofs.laws.ranges_are_read_back.Goals as goal

pub returns-clause-sound : goal.returns-clause-sound
returns-clause-sound g c =
    range_sound g.K.MaybeBounded.order g.K.Json.shape g.K.Json.reads g.K.Json.is_value
    g.K.Json.is_read g.met.K.ReadsBack.reads_written 0

pub returns-clause-equal : goal.returns-clause-equal
returns-clause-equal g c =
    let order = g.K.MaybeBounded.order in
    let back =
    λ (x : g.row.K.Denot) (y : g.row.K.Denot) (v : g.K.Json.is_value x)
    (read : g.K.Json.is_read (g.K.Json.shape x) y).
    sym (g.met.K.MaybeBounded.order_is_cmp x y)
    ∙ (Equal-is (g.K.Ord.cmp x y)).0
    (sym (g.met.K.Ord.matches_eq x y) ∙ g.met.K.ReadsBack.reads_back x y v read) in
    λ r s v read. range_clone order g.met.K.PartialEnum.lawful (λ a b. order.cmp a b ≡ Equal)
    (λ a b h.
    h) r s (bounds_back order g.K.Json.shape g.K.Json.reads g.K.Json.is_value g.K.Json.is_read
    back r s v read)
