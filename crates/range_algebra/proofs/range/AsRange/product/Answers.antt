use Rattle.std.proofs.Common.{◌∙◌, sym, subst}
use Rattle.range_algebra.specs.Parts.{product, IsProduct}
use Rattle.range_algebra.proofs.Products.{product_is}
use Rattle.range_algebra.proofs.range.AsRange.product.Goals as goal

pub returns-clause-exact : goal.returns-clause-exact
returns-clause-exact g c =
    c.product.ensures
    ∙ (λ i. product g.Self.Item.MaybeBounded.order (c.bounds_of.ensures i)
    (c.bounds_of-2.ensures i))

pub returns-clause-parts : goal.returns-clause-parts
returns-clause-parts g c =
    let order = g.Self.Item.MaybeBounded.order in
    let r = g.Self.AsRange.range c.args.self.now in
    let s = g.R.AsRange.range c.args.other.now in
    subst (IsProduct order r s) (sym (returns-clause-exact g c))
    (product_is order g.met.Self.Item.PartialEnum.lawful r s c.known_range.ensures
    c.known_range-2.ensures)
