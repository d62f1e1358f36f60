use Rattle.std.proofs.Common.{◌≡◌, ◌++◌, Some, arith, refl, subst, sym}
use Rattle.std.specs.Prelude.{OnOk}
use Rattle.line_program.specs.Listing.{Writes}
use Rattle.line_program.proofs.Listing.{appends_then, on_ok_as}
use Rattle.address_text.specs.declared.family.Family.TheVariants.{V4, V6}
use Rattle.cidr.specs.Firewalls.{IsFirewallFile}
use Rattle.cidr.proofs.Firewalls.{one_filled}
use Rattle.cidr.proofs.firewall.write_sets.Goals as goal

pub returns-in-Some-V4 : goal.returns-in-Some-V4
returns-in-Some-V4 g c = λ firewall v4 v6.
    let only : c.args.only ≡ Some V4 = grind arith in
    one_filled firewall V4 c.args.v4.now c.args.list.now c.args.only
    (g.W.Write.contents c.args.out.now) (g.W.Write.contents c.write_set.new.out)
    c.write_set.result only v4 c.write_set.ensures

pub returns-in-Some-V6 : goal.returns-in-Some-V6
returns-in-Some-V6 g c = λ firewall v4 v6.
    let only : c.args.only ≡ Some V6 = grind arith in
    one_filled firewall V6 c.args.v6.now c.args.list.now c.args.only
    (g.W.Write.contents c.args.out.now) (g.W.Write.contents c.write_set-in-Some-V6.new.out)
    c.write_set-in-Some-V6.result only v6 c.write_set-in-Some-V6.ensures

pub returns-in_ok-write_set-in-None : goal.returns-in_ok-write_set-in-None
returns-in_ok-write_set-in-None g c = λ firewall v4 v6.
    let before = g.W.Write.contents c.args.out.now in
    let now = g.W.Write.contents c.write_set-in-None.new.out in
    let next = g.W.Write.contents c.write_set-in-None-2.new.out in
    let first = c.in_ok-write_set-in-None.ensures in
    subst (λ only. OnOk c.write_set-in-None-2.result
    (Writes before next (IsFirewallFile firewall only c.args.list.now))) (sym c.in-None.is)
    (on_ok_as c.write_set-in-None-2.result _ _ (λ second. (
      first.0 ++ second.0,
      (
        first.0,
        second.0,
        (c.args.v4.now, v4, first.1),
        (c.args.v6.now, v6, second.1),
        refl,
      ),
      appends_then before now next first.0 second.0 first.2 second.2,
    )) c.write_set-in-None-2.ensures)
