use Rattle.std.proofs.Common.{◌≡◌, length, arith}
use Rattle.std.proofs.lemmas.Grind.{common_steps}
use Rattle.std.specs.List.{each_same}
use Rattle.state_sets.proofs.Lists.{keeps_pushed}
use Rattle.state_sets.proofs.Finding.{added_index, found_all}
use Rattle.state_sets.proofs.sets.Sets.add.Goals as goal

pub returns-clause-index : goal.returns-clause-index
returns-clause-index c =
    let before = c.args.self.now.listed.items in
    let copy = c.in_ok-clone-2.field-0 in
    let same = each_same c.args.set.now.keys copy.keys c.in_ok-clone-2.ensures.cases in
    let place : length before ≡ c.len-index.result = omega arith in
    rw (← place)
    (added_index before c.push.new.self.items c.args.set.now copy c.in_ok-push.ensures.items same)

pub returns-clause-added : goal.returns-clause-added
returns-clause-added c =
    let copy = c.in_ok-clone-2.field-0 in
    let same = each_same c.args.set.now.keys copy.keys c.in_ok-clone-2.ensures.cases in
    (copy, c.in_ok-push.ensures.items, grind arith)

pub returns-clause-kept : goal.returns-clause-kept
returns-clause-kept c =
    grind (arith, common_steps, keeps_pushed, c.in_ok-push.ensures.items)

pub returns-clause-found : goal.returns-clause-found
returns-clause-found c =
    let before = c.args.self.now in
    let set = c.args.set.now in
    let key = c.in_ok-clone.field-0 in
    let copy = c.in_ok-clone-2.field-0 in
    let key_same = each_same set.keys key.keys c.in_ok-clone.ensures.cases in
    let same = each_same set.keys copy.keys c.in_ok-clone-2.ensures.cases in
    let place : c.len-index.result ≡ length before.listed.items = omega arith in
    found_all before (record { listed = c.push.new.self; indices = c.insert.new.self }) set copy key
    c.requires.found c.len-ascending.ensures.ordered c.requires.new same key_same
    c.in_ok-push.ensures.items (rw place at c.in_ok-insert.ensures.updates.0)
