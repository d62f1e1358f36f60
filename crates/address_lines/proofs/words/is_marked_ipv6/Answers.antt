use Rattle.std.specs.Io.BufRead.{strip_last}
use Rattle.address_lines.specs.Words.{HasIpv6, without_mark}
use Rattle.address_lines.proofs.Pieces.{last_of_three, not_told, shorter_told}
use Rattle.address_lines.proofs.Shortest.{strip_same, without_mark_same}
use Rattle.address_lines.proofs.words.is_marked_ipv6.Goals as goal

pub returns-else-is_shorter_ipv6 : goal.returns-else-is_shorter_ipv6
returns-else-is_shorter_ipv6 c =
    let list = c.args.list.now in
    let text = c.args.text.now in
    let told = c.is_shorter_ipv6.result in
    let last = c.is_shorter_ipv6-else-is_shorter_ipv6.result in
    let none = not_told c.is_ipv6.result c.if-is_ipv6.false c.is_ipv6.ensures in
    last_of_three last none
    (not_told told c.if-is_shorter_ipv6.false
    (shorter_told (HasIpv6 list) told text c.without_dot.result.now (strip_last 46 text)
    c.without_dot.ensures c.is_shorter_ipv6.ensures (strip_same 46 text) none))
    (shorter_told (HasIpv6 list) last text c.without_mark.result.now (without_mark text)
    c.without_mark.ensures c.is_shorter_ipv6-else-is_shorter_ipv6.ensures (without_mark_same text)
    none)
