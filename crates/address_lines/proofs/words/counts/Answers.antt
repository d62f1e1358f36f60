use Rattle.std.specs.Io.BufRead.{strip_last}
use Rattle.address_lines.specs.Words.{HasIpv4, HasPart, is_colon}
use Rattle.address_lines.proofs.Pieces.{last_tells, last_way, not_told, one_way, stands_at, stands_nowhere}
use Rattle.address_lines.proofs.words.counts.Goals as goal
use Rattle.std.proofs.Common.{◌↔◌, List, ℕ, subst}
use Rattle.std.specs.Prelude.{IsTrue}

pub returns-else-has_part : goal.returns-else-has_part
returns-else-has_part c =
    last_way c.is_marked_ipv6.result
    (stands_at is_colon c.args.word.now c.in-Some.field-0 c.in-Some.ensures).1
    (not_told c.has_part.result c.if-has_part.false c.has_part.ensures)
    c.is_marked_ipv6.ensures

pub returns-in-None : goal.returns-in-None
returns-in-None c =
    let list = c.args.list.now in
    let word = c.args.word.now in
    let none = stands_nowhere is_colon word c.in-None.ensures in
    one_way c.is_ipv4.result none
    (last_tells is_colon (λ (part : List ℕ). HasIpv4 list (strip_last 46 part)) (HasPart list word)
    word c.is_ipv4.result (λ all. all, λ all. all) none
    (subst (λ text. IsTrue c.is_ipv4.result ↔ HasIpv4 list text) c.without_dot.ensures
    c.is_ipv4.ensures))
