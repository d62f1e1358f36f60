use Rattle.std.proofs.Common.{rules, ◌≡◌, ℕ, ◌+◌, ◌-◌, ◌<◌, ◌++◌, ◌⊎◌, false, Result, Ok, Err, OnOk, ap, sym, subst, ◌∙◌, inl, inr, arith}
use Rattle.std.proofs.lemmas.Grind.{common_steps}
use Rattle.shortest_tables.specs.Entries.{own, placed}
use Rattle.shortest_tables.specs.Trees.{IsPopped, IsWritten}
use Rattle.shortest_tables.proofs.Gathers.{half_power}
use Rattle.shortest_tables.proofs.Writes.{divided_written, whole_written}
use Rattle.shortest_tables.proofs.write.+push_entries.Goals.{then-taken+then-free-gt0+in_ok-push_entries+in_ok-push_entries-2, else-taken, else-taken-via-then-taken+else-free-gt0, else-taken-via-else-taken}
use Rattle.shortest_tables.proofs.write.+push_entries.Goals as goal

on_ok : {E : Type 0} (r : Result (Unit {0}) E) (P Q : Type 0) → (P → Q) → OnOk r P → OnOk r Q
on_ok (Ok x) P Q f h = f h
on_ok (Err x) P Q f h = h

pub overflow_add-middle : goal.overflow_add-middle
overflow_add-middle t c =
    let half = half_power c.args.free c.if-free-gt0.true in
    let e = c.greatest_of.ensures in
    let fits = c.requires.fits in
    let small : c.args.network + c.greatest_of.result < 340282366920938463463374607431768211456 = omega (arith, half, e, fits) in
    first_of (search rules, grind (arith, common_steps))

pub overflow_add-middle-then-free-gt0 : goal.overflow_add-middle-then-free-gt0
overflow_add-middle-then-free-gt0 t c =
    let half = half_power c.args.free c.if-free-gt0.true in
    let e = c.greatest_of.ensures in
    let fits = c.requires.fits in
    let small : c.args.network + c.greatest_of.result + 1 < 340282366920938463463374607431768211456 = omega (arith, half, e, fits) in
    first_of (search rules, grind (arith, common_steps))

pub push_entries-requires : goal.push_entries-requires
push_entries-requires t c =
    let wide = c.if-free-gt0.true in
    let half = half_power c.args.free wide in
    let e = c.greatest_of.ensures in
    let fits = c.requires.fits in
    let inside = c.requires.inside in (
      first_of (omega (arith, wide), search rules),
      (omega (arith, inside), (c.requires.small, omega (arith, half, e, fits))),
    )

pub push_entries-requires-then-free-gt0 : goal.push_entries-requires-then-free-gt0
push_entries-requires-then-free-gt0 t c =
    let wide = c.if-free-gt0.true in
    let half = half_power c.args.free wide in
    let fits = c.requires.fits in
    let inside = c.requires.inside in (
      first_of (omega (arith, wide), search rules),
      (omega (arith, inside), (c.requires.small, omega (arith, half, fits))),
    )

pub returns : goal.returns
returns t c =
    let width : ℕ = c.args.width in
    let free : ℕ = c.args.free in
    let network : ℕ = c.args.network in
    let above = c.args.above in
    let taken = c.pop-taken.result in
    let old = c.args.marks.now in
    let before = c.args.table.now.items in
    let after = c.push_own.new.table.items in
    on_ok c.push_own.result
    (after ≡ c.if-taken.table.items ++ placed width free network (own taken.own))
    (IsWritten width free network above old c.if-taken.marks before after)
    (λ is. elim c.if-taken.branch [
      | then-taken+then-free-gt0+in_ok-push_entries+in_ok-push_entries-2 w ↦
          let wide = w.if-free-gt0.true in
          let e = w.greatest_of.ensures in
          divided_written width free (free - 1) network (network + w.greatest_of.result + 1) above taken
          old c.pop-taken.new.self w.push_entries.new.marks c.if-taken.marks before
          w.push_entries.new.table.items w.push_entries-then-free-gt0.new.table.items after
          (omega (arith, wide)) (omega (arith, e)) c.requires.inside c.pop-taken.ensures w.if-taken.true
          w.in_ok-push_entries.ensures
          (subst (λ m. IsWritten width (free - 1) network taken.label w.push_entries.new.marks m
          w.push_entries.new.table.items w.push_entries-then-free-gt0.new.table.items) (sym w.marks-is)
          w.in_ok-push_entries-2.ensures)
          (is ∙ ap (λ v. v.items ++ placed width free network (own taken.own)) w.table-is)
      | else-taken w ↦
          let side : (taken.is_divided ≡ false) ⊎ (free ≡ 0) = elim w.else-taken.branch [
            | else-taken-via-then-taken+else-free-gt0 x ↦ inr (omega (arith, x.if-free-gt0.false))
            | else-taken-via-else-taken x ↦ inl x.if-taken.false
          ] in
          whole_written width free network above taken old c.if-taken.marks before after
          (subst (λ m. IsPopped above old m taken) (sym w.marks-is) c.pop-taken.ensures) side
          (is ∙ ap (λ v. v.items ++ placed width free network (own taken.own)) w.table-is)
    ])
    c.push_own.ensures
