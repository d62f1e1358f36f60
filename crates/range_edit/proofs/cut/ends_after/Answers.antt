use Rattle.range_edit.proofs.Common.{◌≡◌, refl, sym, ap, ◌∙◌, ◌↔◌, IsTrue, Some, None, Excluded, Included, Lt, bound_of, eq_ge, eq_le, flipped, flipped_bound_is_past, le_lt_trans, lt_le_trans, position_cmp, start_position, upper}
use Rattle.range_edit.proofs.KeyPlaces.{key_less}
use Rattle.range_runs.proofs.CutParts.{ends_after_is, ends_never}
use Rattle.range_edit.proofs.cut.ends_after.Goals as goal

pub returns-in-Some : goal.returns-in-Some
returns-in-Some g c =
    let start = bound_of c.in-Some.start in
    let turns : Some start ≡ flipped (g.R.AsRange.range c.args.second.now).end =
    c.in-Some.ensures ∙ ap flipped c.end-other.ensures in
    rw (c.le.ensures, c.end_bound.ensures tt) (ends_after_is g.K.MaybeBounded.order
    g.met.K.PartialEnum.lawful (g.R.AsRange.range c.args.second.now) c.args.first.now start
    c.known_range.ensures c.known.ensures turns)

pub returns-in-None : goal.returns-in-None
returns-in-None g c =
    let second = g.R.AsRange.range c.args.second.now in
    let turns : None ≡ flipped second.end = c.in-None.ensures ∙ ap flipped c.end-other.ensures in
    ends_never g.K.MaybeBounded.order g.met.K.PartialEnum.lawful second c.args.first.now
    c.known.ensures turns

pub returns-in-Excluded-Excluded : goal.returns-in-Excluded-Excluded
returns-in-Excluded-Excluded g c =
    let order = g.K.MaybeBounded.order in
    let lawful = g.met.K.PartialEnum.lawful in
    let at = c.in-Excluded-Excluded in
    let end = (g.R.AsRange.range c.args.second.now).end in
    let ends : end ≡ Excluded at.key.now = sym c.end-other.ensures ∙ ap bound_of at.is-1 in
    let own = flipped_bound_is_past order lawful c.args.first.now.end (Included at.end)
    (rw at.is-0 refl) in
    let other = flipped_bound_is_past order lawful end (Included at.key.now) (rw ends refl) in
    let told = g.met.K.Ord.matches_partial_cmp at.key.now at.end ∙ ap Some
    (g.met.K.MaybeBounded.order_is_cmp at.key.now at.end) in
    let keys : IsTrue c.lt.result ↔ Lt (position_cmp order.cmp)
    (start_position order (Included at.key.now)) (start_position order (Included at.end)) =
    rw c.lt.ensures (key_less g.K.PartialOrd.partial_cmp at.key.now at.end _ told) in
    let a = start_position order (Included at.key.now) in
    let b = start_position order (Included at.end) in
    let theirs = upper order (g.R.AsRange.range c.args.second.now) in
    let ours = upper order c.args.first.now in (
      λ t. le_lt_trans lawful theirs a ours (eq_le lawful theirs a other)
          (lt_le_trans lawful a b ours (keys.0 t) (eq_ge lawful ours b own)),
      λ h. keys.1 (le_lt_trans lawful a theirs b (eq_ge lawful theirs a other)
          (lt_le_trans lawful theirs ours b h (eq_le lawful ours b own))),
    )
