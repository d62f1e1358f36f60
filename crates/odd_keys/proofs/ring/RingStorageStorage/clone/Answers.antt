use Rattle.std.proofs.Common.{◌≡◌, true}
use Rattle.odd_keys.proofs.Searched.{equal_clones}
use Rattle.odd_keys.proofs.ring.RingStorageStorage.clone.Goals as goal

pub returns : goal.returns
returns g c =
    equal_clones g.T.Clone.is_clone
    (λ x y. g.T.PartialEq.eq y x ≡ true) c.args.self.now.stored.items
    c.in_ok-clone.field-0.items c.requires c.in_ok-clone.ensures.cases.0
