use Rattle.std.proofs.Common.{arith, subst}
use Rattle.std.proofs.NetLemmas.Theorems.{IsIpv4Text_unique}
use Rattle.std.proofs.lemmas.Bool.{false≢true}
use Rattle.std.specs.declared.net.ip_addr.IpAddr.TheVariants as Ip
use Rattle.address_lists.specs.Lookups.{HasIp}
use Rattle.address_lines.proofs.Shortest.{ipv4_length}
use Rattle.address_lines.proofs.words.is_ipv4.Goals as goal

pub returns-then-text-lt-SHORTEST_IPV4 : goal.returns-then-text-lt-SHORTEST_IPV4
returns-then-text-lt-SHORTEST_IPV4 c = (
  λ yes. absurd (false≢true yes),
  λ (address, is, held). absurd (omega
      (arith, c.if-text-lt-SHORTEST_IPV4.true, ipv4_length c.args.text.now address is)),
)

pub returns-in-Ok : goal.returns-in-Ok
returns-in-Ok c = (
  λ held. (c.in-Ok.address, c.in-Ok.ensures, c.has.ensures.0 held),
  λ (address, is, held). c.has.ensures.1 (subst (λ a. HasIp c.args.list.now (Ip.V4 a))
      (IsIpv4Text_unique c.args.text.now address c.in-Ok.address is c.in-Ok.ensures) held),
)

pub returns-in-Err : goal.returns-in-Err
returns-in-Err c =
    (λ yes. absurd (false≢true yes), λ (address, is, has). absurd (c.in-Err.ensures address is))
