use Rattle.std.proofs.Common.{sym, ◌∙◌}
use Rattle.std.proofs.lemmas.Iterator.{YieldsList-from_chars}
use Rattle.std.proofs.lemmas.Iterator.Consumers.{YieldsList-end}
use Rattle.std.proofs.lemmas.List.{map-append, map-id}
use Rattle.line_program.proofs.Listing.{appends_then, on_ok_as}
use Rattle.tokens.proofs.fault.mark.Goals as goal

pub loop-c-init : goal.loop-c-init
loop-c-init g c = c.in_ok-write_all.ensures.bytes

pub loop-c-preserved : goal.loop-c-preserved
loop-c-preserved g c =
    let more = appends_then _ _ _ _ _ c.loop-c.invariant c.in_ok-write_all-2.ensures.bytes in
    rw (map-append, ← c.blank_below.ensures) more

pub returns : goal.returns
returns g c =
    let end =
    YieldsList-end (YieldsList-from_chars c.args.before.now c.utf8.before cc) c.loop-c.yielded _
    c.loop-c.yielded_by _ _ c.in-None.is c.next.ensures.steps in
    let all = sym (map-id c.loop-c.yielded) ∙ end.0 in
    on_ok_as c.write_all-2.result _ _
    (λ appended. rw (← all) (appends_then _ _ _ _ _ c.loop-c.invariant appended))
    c.write_all-2.ensures.bytes
