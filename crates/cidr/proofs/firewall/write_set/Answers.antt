use Rattle.std.proofs.Common.{sym, ◌∙◌}
use Rattle.std.proofs.lemmas.Bool.{false≢true}
use Rattle.line_program.proofs.Listing.{on_ok_as}
use Rattle.cidr.proofs.Firewalls.{all_filled}
use Rattle.cidr.proofs.firewall.write_set.Goals as goal

pub returns : goal.returns
returns g c =
    on_ok_as c.write_all-3.result _ _
    (λ closed. all_filled c.args.text.now c.args.family c.args.list.now c.as_bytes.result.now
    c.as_bytes-2.result.now c.as_bytes-3.result.now c.as_str.result.now c.as_bytes.ensures.value
    c.as_bytes-2.ensures.value c.as_bytes-3.ensures.value c.as_str.ensures.value
    (λ none. false≢true (sym c.if-has_none.false ∙ c.has_none.ensures.1 none))
    (g.W.Write.contents c.args.out.now) (g.W.Write.contents c.write_all.new.self)
    (g.W.Write.contents c.write_all-2.new.self)
    (g.W.Write.contents c.write_family_prefixes.new.out)
    (g.W.Write.contents c.write_all-3.new.self) c.in_ok-write_all.ensures.bytes
    c.in_ok-write_all-2.ensures.bytes c.in_ok-write_family_prefixes.ensures closed)
    c.write_all-3.ensures.bytes
