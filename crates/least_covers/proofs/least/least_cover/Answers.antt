use Rattle.std.proofs.Common.{◌≡◌, ◌==◌, ℕ, ◌≤◌, ◌^◌, true, false, vec_len, length, ap, sym, ◌∙◌, arith, pow_mono}
use Rattle.std.proofs.lemmas.Bool.Decides.{nat_tests}
use Rattle.std.proofs.lemmas.List.{nil_from_length}
use Rattle.least_covers.specs.Rows.{at}
use Rattle.least_covers.proofs.Theorem.{chosen_least, none_least}
use Rattle.least_covers.proofs.least.least_cover.Goals as goal

zero_is : (n : ℕ) → (n == 0) ≡ true → n ≡ 0
zero_is n h = grind (arith, nat_tests)

some_is : (n : ℕ) → (n == 0) ≡ false → 1 ≤ n
some_is n h = grind (arith, nat_tests)

pub gather-requires-clause-fits : goal.gather-requires-clause-fits
gather-requires-clause-fits c = let p : 2 ^ c.args.width ≤ 2 ^ 128 = pow_mono c.requires.small in omega (arith, p)

pub returns-then-is_empty-clause-ascending : goal.returns-then-is_empty-clause-ascending
returns-then-is_empty-clause-ascending c =
    let zero' = zero_is (vec_len c.in_ok-found.found.part.row) (sym c.is_empty.ensures ∙ c.if-is_empty.true) in
    let e = nil_from_length c.in_ok-found.found.part.row.items (omega (arith, zero', c.in_ok-found.found.part.row.ok.0)) in
    rw c.new-blocks.ensures.items (none_least c.args.most c.args.width c.args.runs.now c.new-marks.result c.gather.new.marks
    c.in_ok-found.found.part.room c.in_ok-found.found.part.row.items e c.in_ok-found.ensures.found).ascending

pub returns-then-is_empty-clause-covers : goal.returns-then-is_empty-clause-covers
returns-then-is_empty-clause-covers c =
    let zero' = zero_is (vec_len c.in_ok-found.found.part.row) (sym c.is_empty.ensures ∙ c.if-is_empty.true) in
    let e = nil_from_length c.in_ok-found.found.part.row.items (omega (arith, zero', c.in_ok-found.found.part.row.ok.0)) in
    rw c.new-blocks.ensures.items (none_least c.args.most c.args.width c.args.runs.now c.new-marks.result c.gather.new.marks
    c.in_ok-found.found.part.room c.in_ok-found.found.part.row.items e c.in_ok-found.ensures.found).covers

pub returns-then-is_empty-clause-least : goal.returns-then-is_empty-clause-least
returns-then-is_empty-clause-least c =
    let zero' = zero_is (vec_len c.in_ok-found.found.part.row) (sym c.is_empty.ensures ∙ c.if-is_empty.true) in
    let e = nil_from_length c.in_ok-found.found.part.row.items (omega (arith, zero', c.in_ok-found.found.part.row.ok.0)) in
    rw c.new-blocks.ensures.items (none_least c.args.most c.args.width c.args.runs.now c.new-marks.result c.gather.new.marks
    c.in_ok-found.found.part.room c.in_ok-found.found.part.row.items e c.in_ok-found.ensures.found).least

pub returns-then-is_empty-clause-added : goal.returns-then-is_empty-clause-added
returns-then-is_empty-clause-added c =
    let zero' = zero_is (vec_len c.in_ok-found.found.part.row) (sym c.is_empty.ensures ∙ c.if-is_empty.true) in
    let e = nil_from_length c.in_ok-found.found.part.row.items (omega (arith, zero', c.in_ok-found.found.part.row.ok.0)) in
    rw c.new-blocks.ensures.items (none_least c.args.most c.args.width c.args.runs.now c.new-marks.result c.gather.new.marks
    c.in_ok-found.found.part.room c.in_ok-found.found.part.row.items e c.in_ok-found.ensures.found).added

pub returns-clause-blocks : goal.returns-clause-blocks
returns-clause-blocks c =
    let row = c.in_ok-found.found.part.row.items in
    let any = some_is (vec_len c.in_ok-found.found.part.row) (sym c.is_empty.ensures ∙ c.if-is_empty.false) in
    let some : 1 ≤ length row = omega (arith, any, c.in_ok-found.found.part.row.ok.0) in
    let shown : c.added_with-added.result ≡ at row c.args.most =
    c.added_with-added.ensures ∙ ap (λ r. at r c.args.most) c.as_slice.ensures.value in
    let written = rw c.new-blocks.ensures.items at c.in_ok-push_chosen.ensures.written in
    (chosen_least c.args.most c.args.width c.args.runs.now c.new-marks.result c.gather.new.marks
    c.push_chosen.new.marks c.in_ok-found.found.part.room row c.push_chosen.new.blocks.items c.reverse.new.self.items
    c.added_with-added.result c.requires.some some c.new-marks.ensures.nodes c.new-marks.ensures.shares
    c.in_ok-found.ensures.found written c.reverse.ensures.items shown).shapes

pub returns-clause-ascending : goal.returns-clause-ascending
returns-clause-ascending c =
    let row = c.in_ok-found.found.part.row.items in
    let any = some_is (vec_len c.in_ok-found.found.part.row) (sym c.is_empty.ensures ∙ c.if-is_empty.false) in
    let some : 1 ≤ length row = omega (arith, any, c.in_ok-found.found.part.row.ok.0) in
    let shown : c.added_with-added.result ≡ at row c.args.most =
    c.added_with-added.ensures ∙ ap (λ r. at r c.args.most) c.as_slice.ensures.value in
    let written = rw c.new-blocks.ensures.items at c.in_ok-push_chosen.ensures.written in
    (chosen_least c.args.most c.args.width c.args.runs.now c.new-marks.result c.gather.new.marks
    c.push_chosen.new.marks c.in_ok-found.found.part.room row c.push_chosen.new.blocks.items c.reverse.new.self.items
    c.added_with-added.result c.requires.some some c.new-marks.ensures.nodes c.new-marks.ensures.shares
    c.in_ok-found.ensures.found written c.reverse.ensures.items shown).ascending

pub returns-clause-within : goal.returns-clause-within
returns-clause-within c =
    let row = c.in_ok-found.found.part.row.items in
    let any = some_is (vec_len c.in_ok-found.found.part.row) (sym c.is_empty.ensures ∙ c.if-is_empty.false) in
    let some : 1 ≤ length row = omega (arith, any, c.in_ok-found.found.part.row.ok.0) in
    let shown : c.added_with-added.result ≡ at row c.args.most =
    c.added_with-added.ensures ∙ ap (λ r. at r c.args.most) c.as_slice.ensures.value in
    let written = rw c.new-blocks.ensures.items at c.in_ok-push_chosen.ensures.written in
    (chosen_least c.args.most c.args.width c.args.runs.now c.new-marks.result c.gather.new.marks
    c.push_chosen.new.marks c.in_ok-found.found.part.room row c.push_chosen.new.blocks.items c.reverse.new.self.items
    c.added_with-added.result c.requires.some some c.new-marks.ensures.nodes c.new-marks.ensures.shares
    c.in_ok-found.ensures.found written c.reverse.ensures.items shown).within

pub returns-clause-covers : goal.returns-clause-covers
returns-clause-covers c =
    let row = c.in_ok-found.found.part.row.items in
    let any = some_is (vec_len c.in_ok-found.found.part.row) (sym c.is_empty.ensures ∙ c.if-is_empty.false) in
    let some : 1 ≤ length row = omega (arith, any, c.in_ok-found.found.part.row.ok.0) in
    let shown : c.added_with-added.result ≡ at row c.args.most =
    c.added_with-added.ensures ∙ ap (λ r. at r c.args.most) c.as_slice.ensures.value in
    let written = rw c.new-blocks.ensures.items at c.in_ok-push_chosen.ensures.written in
    (chosen_least c.args.most c.args.width c.args.runs.now c.new-marks.result c.gather.new.marks
    c.push_chosen.new.marks c.in_ok-found.found.part.room row c.push_chosen.new.blocks.items c.reverse.new.self.items
    c.added_with-added.result c.requires.some some c.new-marks.ensures.nodes c.new-marks.ensures.shares
    c.in_ok-found.ensures.found written c.reverse.ensures.items shown).covers

pub returns-clause-least : goal.returns-clause-least
returns-clause-least c =
    let row = c.in_ok-found.found.part.row.items in
    let any = some_is (vec_len c.in_ok-found.found.part.row) (sym c.is_empty.ensures ∙ c.if-is_empty.false) in
    let some : 1 ≤ length row = omega (arith, any, c.in_ok-found.found.part.row.ok.0) in
    let shown : c.added_with-added.result ≡ at row c.args.most =
    c.added_with-added.ensures ∙ ap (λ r. at r c.args.most) c.as_slice.ensures.value in
    let written = rw c.new-blocks.ensures.items at c.in_ok-push_chosen.ensures.written in
    (chosen_least c.args.most c.args.width c.args.runs.now c.new-marks.result c.gather.new.marks
    c.push_chosen.new.marks c.in_ok-found.found.part.room row c.push_chosen.new.blocks.items c.reverse.new.self.items
    c.added_with-added.result c.requires.some some c.new-marks.ensures.nodes c.new-marks.ensures.shares
    c.in_ok-found.ensures.found written c.reverse.ensures.items shown).least

pub returns-clause-added : goal.returns-clause-added
returns-clause-added c =
    let row = c.in_ok-found.found.part.row.items in
    let any = some_is (vec_len c.in_ok-found.found.part.row) (sym c.is_empty.ensures ∙ c.if-is_empty.false) in
    let some : 1 ≤ length row = omega (arith, any, c.in_ok-found.found.part.row.ok.0) in
    let shown : c.added_with-added.result ≡ at row c.args.most =
    c.added_with-added.ensures ∙ ap (λ r. at r c.args.most) c.as_slice.ensures.value in
    let written = rw c.new-blocks.ensures.items at c.in_ok-push_chosen.ensures.written in
    (chosen_least c.args.most c.args.width c.args.runs.now c.new-marks.result c.gather.new.marks
    c.push_chosen.new.marks c.in_ok-found.found.part.room row c.push_chosen.new.blocks.items c.reverse.new.self.items
    c.added_with-added.result c.requires.some some c.new-marks.ensures.nodes c.new-marks.ensures.shares
    c.in_ok-found.ensures.found written c.reverse.ensures.items shown).added
