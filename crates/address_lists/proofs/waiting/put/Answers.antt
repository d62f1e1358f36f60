use Rattle.std.proofs.Common.{map, inl, inr, refl, subst, sym}
use Rattle.address_lists.specs.Lists.{HasJust}
use Rattle.address_lists.specs.Waiting.{HasOrSays, line_of}
use Rattle.address_lists.proofs.Lines.{put_then}
use Rattle.address_lists.proofs.waiting.put.Goals as goal
use Rattle.address_lists.proofs.waiting.put.Goals.{then-len-most+in_ok-add_sorted, else-len-most}

pub returns-in-Ok-clause-put : goal.returns-in-Ok-clause-put
returns-in-Ok-clause-put g c =
    let line = line_of g.A.FamilyAddress.its_family g.A.Address.number in
    let old = c.args.list.now in
    let before = c.args.spans.now.items in
    put_then line old c.if-len-most.list before c.if-len-most.spans.items c.push.new.self.items
    c.args.span c.in-Ok.ensures.items
    (elim c.if-len-most.branch [
      | then-len-most+in_ok-add_sorted w ↦ inr (
        subst (λ list. HasJust list (HasOrSays old (map line before))) (sym w.list-is)
            w.in_ok-add_sorted.ensures.added,
        rw w.spans-is w.in_ok-add_sorted.ensures.none,
      )
      | else-len-most w ↦ inl (w.list-is, rw w.spans-is refl)
    ])
