use Rattle.std.proofs.Common.{◌≡◌, ℕ, ◌+◌, ◌-◌, ◌^◌, ap, ◌∙◌, arith}
use Rattle.std.proofs.lemmas.Nat.{pow_pos}
use Rattle.address_text.specs.Texts.{prefix_line, width}
use Rattle.line_program.proofs.Listing.{on_ok_as}
use Rattle.address_lists.proofs.Series.{all_written, blocks_are, none_written, one_written}
use Rattle.address_lists.proofs.split.write_parts.Goals as goal
use Rattle.std.proofs.Common.{rules}

pub loop-network-init : goal.loop-network-init
loop-network-init g c = search (rules, none_written, pow_pos, blocks_are)

pub loop-network-preserved : goal.loop-network-preserved
loop-network-preserved g c =
    let length = c.args.length in
    let step : ℕ = 2 ^ (width c.args.family - length) in
    let size : c.greatest_of-others.result + 1 ≡ step =
    c.greatest_of-others.ensures ∙ ap (λ bits. 2 ^ (bits - length)) c.width.ensures in
    one_written (λ n. prefix_line c.args.around.before.now c.args.around.after.now c.args.family n length) step
    (pow_pos (width c.args.family - length)) _ _ c.args.ends.1 c.loop-network.network
    c.greatest_of-others.result (g.W.Write.contents c.args.out.now)
    (g.W.Write.contents c.loop-network.out) (g.W.Write.contents c.write_prefix_line.new.out)
    c.loop-network.invariant size c.loop-network-test.true c.in_ok-write_prefix_line.ensures

pub returns : goal.returns
returns g c =
    let length = c.args.length in
    let step : ℕ = 2 ^ (width c.args.family - length) in
    let size : c.greatest_of-others.result + 1 ≡ step =
    c.greatest_of-others.ensures ∙ ap (λ bits. 2 ^ (bits - length)) c.width.ensures in
    let last = c.loop-network-test.false in
    on_ok_as c.write_prefix_line-2.result _ _
    (all_written (λ n. prefix_line c.args.around.before.now c.args.around.after.now c.args.family n length) step _ _ c.args.ends.1
    c.loop-network.network c.greatest_of-others.result (g.W.Write.contents c.args.out.now)
    (g.W.Write.contents c.loop-network.out) (g.W.Write.contents c.write_prefix_line-2.new.out)
    c.loop-network.invariant size (omega (arith, last))) c.write_prefix_line-2.ensures
