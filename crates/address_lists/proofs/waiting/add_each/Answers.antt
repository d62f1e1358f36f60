use Rattle.std.proofs.Common.{◌≡◌, ◌<◌, ◌∙◌, length, map, take, get_or, ap, subst, sym, arith}
use Rattle.std.proofs.lemmas.List.{map_more, take_all}
use Rattle.address_lists.specs.Waiting.{line_of}
use Rattle.address_lists.proofs.Lines.{AreFollowed, IsFollowed, followed, last_added, none_followed}
use Rattle.address_lists.proofs.waiting.add_each.Goals as goal

pub loop-span-init : goal.loop-span-init
loop-span-init g c = (tt, none_followed c.args.list.now)

pub loop-span-preserved : goal.loop-span-preserved
loop-span-preserved g c =
    let line = line_of g.A.FamilyAddress.its_family g.A.Address.number in
    let i = c.loop-span.span-index in
    let spans = c.args.spans.now in
    let item = c.span-item.result in
    let below : i < length spans = omega arith in
    let old = c.args.list.now in
    let now = c.loop-span.list in
    let next = c.follow.new.list in
    let says : c.line.result ≡ line (get_or spans i item) =
    c.line.ensures.line ∙ ap line c.span-item.is in (
      c.in_ok-last.ensures.fits,
      subst (λ lines. AreFollowed old next c.in_ok-last.last lines)
          (sym (map_more line spans i item below))
          (followed old now next c.loop-span.last c.in_ok-last.last (line (get_or spans i item))
          (map line (take i spans)) c.loop-span.invariant.1
          (subst (IsFollowed now next c.loop-span.last c.in_ok-last.last) says
          c.in_ok-last.ensures.said)),
    )

pub returns-clause-added : goal.returns-clause-added
returns-clause-added g c =
    let line = line_of g.A.FamilyAddress.its_family g.A.Address.number in
    let spans = c.args.spans.now in
    let all : take c.loop-span.span-index spans ≡ spans =
    take_all c.loop-span.span-index spans (omega (arith, c.loop-span-test.false)) in
    last_added c.args.list.now c.loop-span.list c.add.new.list c.loop-span.last (map line spans)
    c.add.result
    (subst (λ xs. AreFollowed c.args.list.now c.loop-span.list c.loop-span.last (map line xs)) all
    c.loop-span.invariant.1)
    c.add.ensures.added
