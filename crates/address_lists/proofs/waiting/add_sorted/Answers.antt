use Rattle.std.proofs.Common.{map, subst}
use Rattle.std.proofs.lemmas.List.Sorted.{IsPermutation-map}
use Rattle.address_lists.specs.Lists.{HasJust}
use Rattle.address_lists.specs.Waiting.{HasOrSays, line_of}
use Rattle.address_lists.proofs.Lines.{added_moved}
use Rattle.address_lists.proofs.waiting.add_sorted.Goals as goal

pub returns-clause-added : goal.returns-clause-added
returns-clause-added g c =
    let line = line_of g.A.FamilyAddress.its_family g.A.Address.number in
    let old = c.args.list.now in
    let now = c.add_each.new.list in
    let spans = c.args.spans.now.items in
    let sorted = c.sort_unstable.new.self.items in
    added_moved old now (map line spans) (map line sorted)
    (IsPermutation-map line spans sorted c.sort_unstable.ensures.permutation)
    (subst (λ xs. HasJust now (HasOrSays old (map line xs))) c.as_slice.ensures.value
    c.in_ok-add_each.ensures.added)
