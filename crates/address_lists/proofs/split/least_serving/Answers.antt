use Rattle.std.proofs.Common.{◌≤◌, ◌<◌, length, rules, take, subst, sym, arith}
use Rattle.std.proofs.lemmas.List.{take_all, take_more}
use Rattle.address_lists.specs.Split.{IsLeastServing}
use Rattle.address_lists.proofs.Serving.{none_serves}
use Rattle.address_lists.proofs.split.least_serving.Goals as goal

pub loop-length-init : goal.loop-length-init
loop-length-init c = search (rules, none_serves)

pub loop-length-preserved : goal.loop-length-preserved
loop-length-preserved c =
    let i = c.loop-length.length-index in
    let lengths = c.args.lengths.now in
    let least = c.lesser-least.result in
    let below : i < length lengths = omega arith in
    subst (λ ls. IsLeastServing ls c.args.family c.args.prefix_length least)
    (sym (take_more lengths i 0 below))
    (c.lesser-least.ensures (take i lengths) c.loop-length.invariant)

pub returns : goal.returns
returns c =
    let i = c.loop-length.length-index in
    let lengths = c.args.lengths.now in
    let ended : length lengths ≤ i = omega arith in
    subst (λ ls. IsLeastServing ls c.args.family c.args.prefix_length c.loop-length.least)
    (take_all i lengths ended) c.loop-length.invariant
