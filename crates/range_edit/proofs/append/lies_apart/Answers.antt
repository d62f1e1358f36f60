use Rattle.range_edit.proofs.Common.{◌∙◌, ap, refl, IsTrue, ◌↔◌, Some, Excluded, Included, position_cmp, start_position, Lt}
use Rattle.range_edit.proofs.ApartRanges.{apart_by_start}
use Rattle.range_edit.proofs.KeyPlaces.{key_less}
use Rattle.range_edit.proofs.append.lies_apart.Goals as goal

pub returns-in-Excluded-Included : goal.returns-in-Excluded-Included
returns-in-Excluded-Included g c =
    let order = g.K.MaybeBounded.order in
    let at = c.in-Excluded-Included in
    let apart = apart_by_start order g.met.K.PartialEnum.lawful c.args.first.now c.args.second.now
    (Included at.end) (rw at.is-0 refl) c.known.ensures c.known-2.ensures in
    let told = g.met.K.Ord.matches_partial_cmp at.end at.start ∙ ap Some
    (g.met.K.MaybeBounded.order_is_cmp at.end at.start) in
    let keys : IsTrue c.lt.result ↔ Lt (position_cmp order.cmp)
    (start_position order (Included at.end)) (start_position order (Included at.start)) =
    rw c.lt.ensures (key_less g.K.PartialOrd.partial_cmp at.end at.start _ told) in
    (λ t. apart.1 (rw at.is-1 (keys.0 t)), λ h. keys.1 (rw at.is-1 at (apart.0 h)))

pub returns-in-Included-Included : goal.returns-in-Included-Included
returns-in-Included-Included g c =
    let order = g.K.MaybeBounded.order in
    let at = c.in-Included-Included in
    let apart = apart_by_start order g.met.K.PartialEnum.lawful c.args.first.now c.args.second.now
    (Excluded at.end) (rw at.is-0 refl) c.known.ensures c.known-2.ensures in
    let keys = c.leaves_place.ensures in
    (λ t. apart.1 (rw at.is-1 (keys.0 t)), λ h. keys.1 (rw at.is-1 at (apart.0 h)))
