use Rattle.std.proofs.Common.{rules, ◌≡◌, ◌∙◌, sym, true}
use Rattle.range_algebra.specs.Compared.{range_ordering, matches}
use Rattle.range_algebra.proofs.Meeting.{connected_holds, holds_connected}
use Rattle.range_algebra.proofs.range.AsRange.connected_to.Goals as goal

pub returns-clause-complete : goal.returns-clause-complete
returns-clause-complete g c = λ complete full full'.
    let order = g.Self.Item.MaybeBounded.order in
    let lawful = g.met.Self.Item.PartialEnum.lawful in
    let r = g.Self.AsRange.range c.args.self.now in
    let s = g.R.AsRange.range c.args.other.now in
    let exact : c.matches.result ≡ matches (range_ordering order r s) true = search rules in (
      λ e.
          connected_holds order lawful r s c.known_range.ensures c.known_range-2.ensures full full'
          (sym exact ∙ e),
      λ h. exact
          ∙ holds_connected order lawful r s c.known_range.ensures c.known_range-2.ensures full
          full' complete h,
    )
