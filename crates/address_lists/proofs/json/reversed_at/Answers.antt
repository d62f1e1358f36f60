use Rattle.std.proofs.Common.{◌<◌, length, arith, rules, subst}
use Rattle.serde_json.specs.View.{view}
use Rattle.address_lists.specs.Json.{IsInOrder, IsReversedValue}
use Rattle.address_lists.proofs.Ordered.{all_such, first_other, one_such}
use Rattle.address_lists.proofs.json.reversed_at.Goals as goal

pub returns-then-branch : goal.returns-then-branch
returns-then-branch g c =
    let values = c.args.elements.now in
    let i = c.loop-index.index in
    let value = c.index-elements-index.result in
    let below : i < length values =
    omega (arith, c.loop-index-test.true, c.loop-index.auto.index-end) in
    first_other (IsInOrder g.A.Json.is_read g.A.Address.number g.A.Json.reads)
    (IsReversedValue g.A.Json.is_read g.A.Address.number) values i value below
    c.loop-index.invariant
    (subst (λ v. IsReversedValue g.A.Json.is_read g.A.Address.number (view v))
    c.index-elements-index.is (c.in_ok-is_reversed_value.ensures.reversed (search rules)))

pub loop-index-preserved : goal.loop-index-preserved
loop-index-preserved g c =
    let values = c.args.elements.now in
    let i = c.loop-index.index in
    let value = c.index-elements-index.result in
    let below : i < length values =
    omega (arith, c.loop-index-test.true, c.loop-index.auto.index-end) in
    one_such (IsInOrder g.A.Json.is_read g.A.Address.number g.A.Json.reads) values i value below
    c.loop-index.invariant
    (subst (λ v. IsInOrder g.A.Json.is_read g.A.Address.number g.A.Json.reads (view v))
    c.index-elements-index.is (c.in_ok-is_reversed_value.ensures.in_order (search rules)))

pub returns : goal.returns
returns g c =
    all_such (IsInOrder g.A.Json.is_read g.A.Address.number g.A.Json.reads) c.args.elements.now
    c.loop-index.index (λ below. omega (arith, below)) c.loop-index.invariant
