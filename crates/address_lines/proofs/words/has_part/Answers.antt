use Rattle.std.proofs.Common.{◌↔◌, List, ℕ, refl, subst}
use Rattle.std.specs.Prelude.{IsTrue}
use Rattle.std.specs.Io.BufRead.{strip_last}
use Rattle.address_lines.specs.Words.{HasIpv4, HasPart, is_colon}
use Rattle.address_lines.proofs.Pieces.{found_first, last_tells, not_told, others_left}
use Rattle.address_lines.proofs.words.has_part.Goals as goal

pub returns-then-is_ipv4 : goal.returns-then-is_ipv4
returns-then-is_ipv4 c =
    let list = c.args.list.now in
    let rest = c.parts.rest.now in (
      λ t. found_first is_colon (λ (part : List ℕ). HasIpv4 list (strip_last 46 part))
          (HasPart list c.args.word.now) rest c.in-Some.part.now c.parts.invariant
          c.in-Some.ensures.0 c.in-Some.ensures.1
          (subst (HasIpv4 list) c.without_dot.ensures (c.is_ipv4.ensures.0 c.if-is_ipv4.true)),
      λ has. refl,
    )

pub parts-preserved : goal.parts-preserved
parts-preserved c =
    let list = c.args.list.now in
    others_left is_colon (λ (part : List ℕ). HasIpv4 list (strip_last 46 part))
    (HasPart list c.args.word.now) c.parts.rest.now c.in-Some.part.now c.in-Some.more.now
    c.parts.invariant c.in-Some.ensures.0 c.in-Some.ensures.1 c.in-Some.ensures.2
    (not_told c.is_ipv4.result c.if-is_ipv4.false
    (subst (λ text. IsTrue c.is_ipv4.result ↔ HasIpv4 list text) c.without_dot.ensures
    c.is_ipv4.ensures))

pub returns : goal.returns
returns c =
    let list = c.args.list.now in
    last_tells is_colon (λ (part : List ℕ). HasIpv4 list (strip_last 46 part))
    (HasPart list c.args.word.now) c.parts.rest.now c.is_ipv4-2.result c.parts.invariant
    c.in_default.ensures
    (subst (λ text. IsTrue c.is_ipv4-2.result ↔ HasIpv4 list text) c.without_dot-2.ensures
    c.is_ipv4-2.ensures)
