use Rattle.std.proofs.Common.{map}
use Rattle.address_keys.specs.Addresses.{ipv4_number, ipv6_number}
use Rattle.address_text.specs.Lines.{SaysAddress}
use Rattle.address_text.specs.declared.family.Family.TheVariants.{V4, V6}
use Rattle.address_lists.specs.Lists.{Has, IsListed}
use Rattle.address_lists.specs.Waiting.{line_of}
use Rattle.address_lists.proofs.Lines.{taken_together}
use Rattle.address_lists.proofs.spans.Waiting.take.Goals as goal

pub returns-in-Some-clause-taken : goal.returns-in-Some-clause-taken
returns-in-Some-clause-taken c =
    let waiting = c.args.self.now in
    λ family n h. taken_together (Has c.args.list.now family n)
    (SaysAddress family n c.in-Some.both) (SaysAddress family n waiting.last)
    (SaysAddress family n c.args.line) (IsListed family n (map (line_of V4 ipv4_number) waiting.v4.items))
    (IsListed family n (map (line_of V6 ipv6_number) waiting.v6.items)) (c.in-Some.ensures.says family n)
