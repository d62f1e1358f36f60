use Rattle.std.proofs.Common.{get_or}
use Rattle.range_map.proofs.CloneLists.{clones_tied, equal_items_are_copy, copy_stored, item_clone}
use Rattle.range_map.proofs.StoredLists.{stored_canonical}
use Rattle.range_map.proofs.map.RangeMap.clone.Goals as goal

pub clone-requires : goal.clone-requires
clone-requires g c =
    let equal =
    clones_tied g.met.K.MaybeBounded.order_is_cmp g.met.K.Ord.matches_eq c.requires.keys in
    λ k d within y h.
    item_clone g.met.K.PartialEnum.lawful
    g.met.V.Eq.laws g.K.Clone.is_clone equal g.V.Clone.is_clone c.requires.values
    (get_or (g.C.Storage.items c.self.inside.stored) k d) y h.0 h.1

pub invariant_of-result : goal.invariant_of-result
invariant_of-result g c =
    let items = g.C.Storage.items c.self.inside.stored in
    let copy = g.C.Storage.items c.in_ok-stored.stored in
    let equal =
    equal_items_are_copy g.met.K.PartialEnum.lawful
    g.met.V.Eq.laws items copy c.in_ok-stored.ensures in
    copy_stored g.met.K.PartialEnum.lawful g.met.V.Eq.laws
    copy items equal c.known_items.ensures c.self.invariant

pub returns-clause-equal : goal.returns-clause-equal
returns-clause-equal g c =
    let items = g.C.Storage.items c.self.inside.stored in
    let copy = g.C.Storage.items c.in_ok-stored.stored in
    rw (← c.self.view_is)
    (equal_items_are_copy g.met.K.PartialEnum.lawful g.met.V.Eq.laws items copy
    c.in_ok-stored.ensures)

pub returns-clause-canonical : goal.returns-clause-canonical
returns-clause-canonical g c =
    stored_canonical g.met.K.PartialEnum.lawful g.met.V.Eq.laws _ (invariant_of-result g c)
