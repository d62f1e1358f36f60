use Rattle.std.proofs.Common.{◌≡◌, Some, arith}
use Rattle.std.proofs.lemmas.Grind.{common_steps}
use Rattle.std.specs.Net.Grammar.{IsDotted}
use Rattle.std.specs.Net.Reader.{read_ipv4}
use Rattle.std.proofs.NetLemmas.Ipv4.{read_ipv4_sound}
use Rattle.serde_json.specs.Find.{as_str}
use Rattle.address_keys.proofs.Reading.{ipv4_complete, reads_none, reads_some}
use Rattle.address_keys.proofs.json.ipv4_in.Goals as goal

pub returns-in-Ok : goal.returns-in-Ok
returns-in-Ok g c =
    let d = g.J.JsonTree.content c.args.value.now in
    let text = c.in_ok-text.text.now in
    let is : as_str d ≡ Some text = grind (arith, common_steps) in (
      (text, is, c.in-Ok.address, c.in-Ok.ensures.value, c.to_bits.ensures),
      reads_some read_ipv4 IsDotted ipv4_complete read_ipv4_sound d text
          c.in-Ok.address.octets is c.in-Ok.ensures.value,
    )

pub returns-in-Err : goal.returns-in-Err
returns-in-Err g c =
    let d = g.J.JsonTree.content c.args.value.now in
    let text = c.in_ok-text.text.now in
    let is : as_str d ≡ Some text = grind (arith, common_steps) in
    reads_none read_ipv4 IsDotted ipv4_complete read_ipv4_sound d text is
    (λ numbers. c.in-Err.ensures.value (record { octets = numbers }))
