use Rattle.std.proofs.Common.{◌∙◌, sym, subst, ◌↔◌}
use Rattle.range_algebra.specs.Range.{Holds}
use Rattle.range_algebra.specs.Parts.{difference, DifferenceHolds, LieRound}
use Rattle.range_algebra.proofs.Pieces.{difference_holds, difference_lies}
use Rattle.range_algebra.proofs.range.AsRange.without.Goals as goal

pub returns-clause-exact : goal.returns-clause-exact
returns-clause-exact g c =
    c.difference.ensures
    ∙ (λ i. difference g.Self.Item.MaybeBounded.order (c.bounds_of.ensures i)
    (c.bounds_of-2.ensures i))

pub returns-clause-held : goal.returns-clause-held
returns-clause-held g c = λ k key.
    let order = g.Self.Item.MaybeBounded.order in
    let r = g.Self.AsRange.range c.args.self.now in
    let s = g.R.AsRange.range c.args.other.now in
    subst (λ d. DifferenceHolds order d k ↔ (Holds order r k × (¬ Holds order s k)))
    (sym (returns-clause-exact g c))
    (difference_holds order g.met.Self.Item.PartialEnum.lawful r s k key)

pub returns-clause-sides : goal.returns-clause-sides
returns-clause-sides g c = λ full.
    let order = g.Self.Item.MaybeBounded.order in
    let r = g.Self.AsRange.range c.args.self.now in
    let s = g.R.AsRange.range c.args.other.now in
    subst (λ d. LieRound order d s) (sym (returns-clause-exact g c))
    (difference_lies order g.met.Self.Item.PartialEnum.lawful r s full)
