use Rattle.std.proofs.Common.{rules, ◌≡◌, ℕ, ◌++◌, Result, Ok, Err, OnOk, vec_len, ap, sym, subst, ◌∙◌, arith}
use Rattle.std.proofs.lemmas.Grind.{common_steps}
use Rattle.least_covers.specs.Trees.{IsPopped, IsWritten, own}
use Rattle.least_covers.proofs.Writes.{divided_written, whole_written}
use Rattle.least_covers.proofs.write.+push_chosen.Goals.{then-taken+in_ok-push_chosen+in_ok-push_chosen-2, else-taken}
use Rattle.least_covers.proofs.write.+push_chosen.Goals as goal

on_ok : {E : Type 0} (r : Result (Unit {0}) E) (P Q : Type 0) → (P → Q) → OnOk r P → OnOk r Q
on_ok (Ok x) P Q f h = f h
on_ok (Err x) P Q f h = h

pub push_chosen-requires : goal.push_chosen-requires
push_chosen-requires t c =
    let less = c.pop-taken.ensures.divided c.if-taken.true in
    (first_of (omega (arith, less), search (rules, less)), tt)

pub returns-in_err-push_chosen-clause-fewer : goal.returns-in_err-push_chosen-clause-fewer
returns-in_err-push_chosen-clause-fewer t c = first_of (search rules, grind (arith, common_steps))

pub returns-in_err-push_chosen-clause-written : goal.returns-in_err-push_chosen-clause-written
returns-in_err-push_chosen-clause-written t c = first_of (search rules, grind (arith, common_steps))

pub push_chosen-requires-then-taken : goal.push_chosen-requires-then-taken
push_chosen-requires-then-taken t c =
    let less = c.pop-taken.ensures.divided c.if-taken.true in
    let fewer = c.push_chosen.ensures.fewer in
    (first_of (omega (arith, less, fewer), search (rules, less, fewer)), tt)

pub returns-in_err-push_chosen-2-clause-fewer : goal.returns-in_err-push_chosen-2-clause-fewer
returns-in_err-push_chosen-2-clause-fewer t c = first_of (search rules, grind (arith, common_steps))

pub returns-in_err-push_chosen-2-clause-written : goal.returns-in_err-push_chosen-2-clause-written
returns-in_err-push_chosen-2-clause-written t c = first_of (search rules, grind (arith, common_steps))

pub returns-clause-fewer : goal.returns-clause-fewer
returns-clause-fewer t c =
    let popped = c.pop-taken.ensures.fewer in
    elim c.if-taken.branch [
      | then-taken+in_ok-push_chosen+in_ok-push_chosen-2 w ↦
          let high = w.push_chosen.ensures.fewer in
          let low = w.push_chosen-then-taken.ensures.fewer in
          let e : vec_len c.if-taken.marks.nodes ≡ vec_len w.push_chosen-then-taken.new.marks.nodes = ap (λ m. vec_len m.nodes) w.marks-is in
          omega (arith, popped, high, low, e)
      | else-taken w ↦
          let e : vec_len c.if-taken.marks.nodes ≡ vec_len c.pop-taken.new.self.nodes = ap (λ m. vec_len m.nodes) w.marks-is in
          omega (arith, popped, e)
    ]

pub returns-clause-written : goal.returns-clause-written
returns-clause-written t c =
    let width : ℕ = c.args.width in
    let k : ℕ = c.args.prefixes in
    let taken = c.pop-taken.result in
    let old = c.args.marks.now in
    let before = c.args.blocks.now.items in
    let after = c.push_own.new.blocks.items in
    on_ok c.push_own.result
    (after ≡ c.if-taken.blocks.items ++ own width taken.is_own taken.network taken.free)
    (IsWritten width k old c.if-taken.marks before after)
    (λ is. elim c.if-taken.branch [
      | then-taken+in_ok-push_chosen+in_ok-push_chosen-2 w ↦
          divided_written width k taken old c.pop-taken.new.self w.push_chosen.new.marks c.if-taken.marks
          before w.push_chosen.new.blocks.items w.push_chosen-then-taken.new.blocks.items after
          c.pop-taken.ensures.popped w.if-taken.true w.in_ok-push_chosen.ensures.written
          (subst (λ m. IsWritten width taken.low w.push_chosen.new.marks m
          w.push_chosen.new.blocks.items w.push_chosen-then-taken.new.blocks.items) (sym w.marks-is)
          w.in_ok-push_chosen-2.ensures.written)
          (is ∙ ap (λ v. v.items ++ own width taken.is_own taken.network taken.free) w.blocks-is)
      | else-taken w ↦
          whole_written width k taken old c.if-taken.marks before after
          (subst (λ m. IsPopped k old m taken) (sym w.marks-is) c.pop-taken.ensures.popped)
          w.if-taken.false
          (is ∙ ap (λ v. v.items ++ own width taken.is_own taken.network taken.free) w.blocks-is)
    ])
    c.push_own.ensures
