use Rattle.std.proofs.Common.{◌^◌}
use Rattle.btree_range_map.specs.Holding.{box_items}
use Rattle.btree_range_map.specs.KeySets.{HoldsKey}
use Rattle.address_covers.proofs.Itself.{itself_added, itself_least}
use Rattle.address_covers.proofs.Runs.{are_ascending}
use Rattle.address_covers.proofs.Theorem.{are_added, are_least, covers, have_at_most}
use Rattle.address_covers.proofs.cover.least_cover.Goals as goal

pub returns-then-is_within-clause-covers : goal.returns-then-is_within-clause-covers
returns-then-is_within-clause-covers g c = λ a key held. held

pub returns-then-is_within-clause-within : goal.returns-then-is_within-clause-within
returns-then-is_within-clause-within g c = c.is_within.ensures.0 c.if-is_within.true

pub returns-then-is_within-clause-least : goal.returns-then-is_within-clause-least
returns-then-is_within-clause-least g c =
    itself_least g.met.A.Address.family (box_items c.args.set) c.args.most
    (c.is_within.ensures.0 c.if-is_within.true)

pub returns-then-is_within-clause-added : goal.returns-then-is_within-clause-added
returns-then-is_within-clause-added g c =
    itself_added g.met.A.Address.family (box_items c.args.set) c.args.most
    (c.is_within.ensures.0 c.if-is_within.true)

pub least_cover-requires-clause-runs : goal.least_cover-requires-clause-runs
least_cover-requires-clause-runs g c =
    rw c.as_slice.ensures.value (are_ascending
    (λ n. HoldsKey g.A.MaybeBounded.order (box_items c.args.set) (g.A.Address.at n))
    (2 ^ g.A.Address.WIDTH) c.in_ok-runs.runs.items c.in_ok-runs.ensures)

pub returns-clause-covers : goal.returns-clause-covers
returns-clause-covers g c =
    let blocks = rw c.WIDTH.ensures at c.in_ok-found.ensures.blocks in
    let is = rw c.as_slice-2.ensures.value at c.in_ok-set.ensures in
    let claim = rw (c.WIDTH.ensures, c.as_slice.ensures.value) at c.in_ok-found.ensures.covers in
    covers g.met.A.Address.family (box_items c.args.set) (box_items c.in_ok-set.set)
    c.in_ok-runs.runs.items c.in_ok-found.found.blocks.items c.in_ok-runs.ensures blocks is claim

pub returns-clause-within : goal.returns-clause-within
returns-clause-within g c =
    let blocks = rw c.WIDTH.ensures at c.in_ok-found.ensures.blocks in
    let is = rw c.as_slice-2.ensures.value at c.in_ok-set.ensures in
    let claim = c.in_ok-found.ensures.within in
    have_at_most g.met.A.Address.family (box_items c.args.set) (box_items c.in_ok-set.set)
    c.in_ok-runs.runs.items c.in_ok-found.found.blocks.items c.in_ok-runs.ensures blocks is c.args.most claim

pub returns-clause-least : goal.returns-clause-least
returns-clause-least g c =
    let blocks = rw c.WIDTH.ensures at c.in_ok-found.ensures.blocks in
    let is = rw c.as_slice-2.ensures.value at c.in_ok-set.ensures in
    let claim = rw (c.WIDTH.ensures, c.as_slice.ensures.value) at c.in_ok-found.ensures.least in
    are_least g.met.A.Address.family (box_items c.args.set) (box_items c.in_ok-set.set)
    c.in_ok-runs.runs.items c.in_ok-found.found.blocks.items c.in_ok-runs.ensures blocks is c.args.most claim

pub returns-clause-added : goal.returns-clause-added
returns-clause-added g c =
    let blocks = rw c.WIDTH.ensures at c.in_ok-found.ensures.blocks in
    let is = rw c.as_slice-2.ensures.value at c.in_ok-set.ensures in
    let claim = rw (c.WIDTH.ensures, c.as_slice.ensures.value) at c.in_ok-found.ensures.added in
    are_added g.met.A.Address.family (box_items c.args.set) (box_items c.in_ok-set.set)
    c.in_ok-runs.runs.items c.in_ok-found.found.blocks.items c.in_ok-runs.ensures blocks is c.in_ok-found.found.added claim
