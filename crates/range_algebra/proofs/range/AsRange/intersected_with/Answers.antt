use Rattle.std.proofs.Common.{◌∙◌, sym, subst}
use Rattle.range_algebra.specs.Range.{Holds}
use Rattle.range_algebra.specs.Combined.{common}
use Rattle.range_algebra.proofs.Commons.{common_holds}
use Rattle.range_algebra.proofs.range.AsRange.intersected_with.Goals as goal

pub returns-clause-exact : goal.returns-clause-exact
returns-clause-exact g c =
    c.common.ensures
    ∙ (λ i. common g.Self.Item.MaybeBounded.order (c.bounds_of.ensures i) (c.bounds_of-2.ensures i))

pub returns-clause-held : goal.returns-clause-held
returns-clause-held g c = λ k key.
    let order = g.Self.Item.MaybeBounded.order in
    let r = g.Self.AsRange.range c.args.self.now in
    let s = g.R.AsRange.range c.args.other.now in
    subst (λ x. (Holds order x k → (Holds order r k × Holds order s k))
    × ((Holds order r k × Holds order s k) → Holds order x k)) (sym (returns-clause-exact g c))
    (common_holds order g.met.Self.Item.PartialEnum.lawful r s k key)
