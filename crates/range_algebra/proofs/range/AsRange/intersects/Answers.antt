use Rattle.std.proofs.Common.{rules, ◌≡◌, ◌∙◌, sym, false}
use Rattle.range_algebra.specs.Compared.{range_ordering, matches}
use Rattle.range_algebra.proofs.Meeting.{intersects_is}
use Rattle.range_algebra.proofs.range.AsRange.intersects.Goals as goal

pub returns-clause-complete : goal.returns-clause-complete
returns-clause-complete g c = λ complete full full'.
    let order = g.Self.Item.MaybeBounded.order in
    let lawful = g.met.Self.Item.PartialEnum.lawful in
    let r = g.Self.AsRange.range c.args.self.now in
    let s = g.R.AsRange.range c.args.other.now in
    let exact : c.matches.result ≡ matches (range_ordering order r s) false = search rules in
    let by_keys =
    intersects_is order lawful r s full full' complete c.known_range.ensures
    c.known_range-2.ensures in
    (λ e. by_keys.0 (sym exact ∙ e), λ h. exact ∙ by_keys.1 h)
