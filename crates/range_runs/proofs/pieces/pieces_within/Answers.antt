use Rattle.range_runs.proofs.Common.{◌≡◌, ap, ◌∙◌, length, take, drop, arith, rules, common_steps, range_of, rank_or_len, pieces_of}
use Rattle.range_runs.proofs.pieces.pieces_within.Goals as goal
use Rattle.range_runs.proofs.pieces.pieces_within.Goals.{in-Some-Some, in_default}

pub returns : goal.returns
returns g c =
    let items = g.C.Storage.items c.args.stored.now in
    let rank = g.C.Storage.rank c.args.stored.now in
    let window = c.args.window.now in
    let same : range_of c.new-range.result ≡ c.args.range.now = search rules in
    let run : c.new.result ≡ take window.count (drop (rank_or_len rank (length items) window.from) items) =
    elim c.match-window.branch [
      | in-Some-Some w ↦ grind (arith, common_steps)
      | in_default w ↦ grind (arith, common_steps)
    ] in
    c.new-2.ensures ∙ (ap (λ r. pieces_of g.K.MaybeBounded.order r c.new.result) same
    ∙ ap (pieces_of g.K.MaybeBounded.order c.args.range.now) run)
