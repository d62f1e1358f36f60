use Rattle.std.proofs.Common.{rules, ◌≡◌, ℕ, nat_eq, ◌+◌, ◌-◌, ◌<◌, ◌^◌, length, refl, ap, sym, subst, ◌∙◌, arith}
use Rattle.std.proofs.lemmas.Grind.{common_steps}
use Rattle.shortest_tables.specs.Labels.{join}
use Rattle.shortest_tables.specs.Numbers.{AreLeft, IsNumbered, as_labels}
use Rattle.shortest_tables.specs.declared.marks.Marks.{Marks}
use Rattle.shortest_tables.proofs.Gathers.{gathered_divided, gathered_whole, half_power, shown_numbered}
use Rattle.shortest_tables.proofs.gather.+gather.Goals as goal

pub uniform-requires-clause-left : goal.uniform-requires-clause-left
uniform-requires-clause-left t c = (length c.args.marks.now.seen.items, c.requires.left)

pub returns-in-Some : goal.returns-in-Some
returns-in-Some t c =
    gathered_whole c.args.otherwise c.args.left.now c.in-Some.all.left.now c.args.free c.args.network
    c.in-Some.all.label c.args.marks.now c.push.new.self c.in_ok-best.best.items c.as_slice.result.now
    c.in-Some.ensures.alike c.in_ok-best.ensures c.as_slice.ensures.value c.requires.clear
    (c.in-Some.ensures.left (length c.args.marks.now.seen.items) c.requires.left)
    c.in-Some.ensures.same c.in_ok-push.ensures.nodes c.in_ok-push.ensures.labels c.push.ensures.seen

pub overflow_add-middle : goal.overflow_add-middle
overflow_add-middle t c =
    let half = half_power c.args.free c.in_default.ensures.wide in
    let e = c.greatest_of.ensures in
    let fits = c.requires.fits in
    let small : c.args.network + c.greatest_of.result < 340282366920938463463374607431768211456 = omega (arith, half, e, fits) in
    first_of (search rules, grind (arith, common_steps))

pub overflow_add-middle-2 : goal.overflow_add-middle-2
overflow_add-middle-2 t c =
    let half = half_power c.args.free c.in_default.ensures.wide in
    let e = c.greatest_of.ensures in
    let fits = c.requires.fits in
    let small : c.args.network + c.greatest_of.result + 1 < 340282366920938463463374607431768211456 = omega (arith, half, e, fits) in
    first_of (search rules, grind (arith, common_steps))

pub gather-requires : goal.gather-requires
gather-requires t c =
    let wide = c.in_default.ensures.wide in
    let half = half_power c.args.free wide in
    let fits = c.requires.fits in
    let small = c.requires.small in (
      first_of (omega (arith, wide), search rules),
      (c.requires.left, (c.requires.otherwise, (c.requires.clear, (omega (arith, small), omega (arith, half, fits))))),
    )

pub gather-requires-2 : goal.gather-requires-2
gather-requires-2 t c =
    let wide = c.in_default.ensures.wide in
    let half = half_power c.args.free wide in
    let e = c.greatest_of.ensures in
    let fits = c.requires.fits in
    let small = c.requires.small in
    let low = c.in_ok-low.ensures in
    let one = c.gather.new.marks in
    let mid = c.in_ok-low.low.left.now in
    let less : ℕ = c.args.free - 1 in
    let start : c.args.network + 2 ^ less ≡ c.args.network + c.greatest_of.result + 1 = omega (arith, e) in
    let left : AreLeft (length one.seen.items) (c.args.network + c.greatest_of.result + 1) mid =
    subst (λ n. AreLeft (length one.seen.items) n mid) start
    (subst (λ n. AreLeft n (c.args.network + 2 ^ less) mid) (sym low.count) low.ahead) in (
      first_of (omega (arith, wide), search rules),
      (
        left,
        (
          subst (λ n. IsNumbered n c.args.otherwise) (sym low.count) c.requires.otherwise,
          (
            low.clear,
            (omega (arith, small), omega (arith, half, e, fits)),
          ),
        ),
      ),
    )

pub join_labels-requires-clause-first : goal.join_labels-requires-clause-first
join_labels-requires-clause-first t c =
    let low = c.in_ok-low.ensures in
    let high = c.in_ok-high.ensures in
    shown_numbered (length c.args.marks.now.seen.items) (length c.gather-2.new.marks.seen.items)
    c.args.otherwise c.args.left.now c.args.network (c.args.free - 1) c.args.network
    c.in_ok-low.low.best.items c.as_slice-2.result.now (high.count ∙ low.count)
    c.as_slice-2.ensures.value c.requires.otherwise c.requires.left low.labelled

pub join_labels-requires-clause-second : goal.join_labels-requires-clause-second
join_labels-requires-clause-second t c =
    let low = c.in_ok-low.ensures in
    let high = c.in_ok-high.ensures in
    shown_numbered (length c.args.marks.now.seen.items) (length c.gather-2.new.marks.seen.items)
    c.args.otherwise c.in_ok-low.low.left.now (c.args.network + 2 ^ (c.args.free - 1)) (c.args.free - 1)
    (c.args.network + c.greatest_of.result + 1) c.in_ok-high.high.best.items c.as_slice-3.result.now
    (high.count ∙ low.count) c.as_slice-3.ensures.value c.requires.otherwise low.ahead high.labelled

pub returns : goal.returns
returns t c =
    let wide = c.in_default.ensures.wide in
    let e = c.greatest_of.ensures in
    let two = c.gather-2.new.marks in
    let joined : Marks = record { nodes = two.nodes; labels = two.labels; seen = c.join_labels.new.seen } in
    let is = c.in_ok-best-2.ensures.joined
    ∙ ap (λ x. join nat_eq (as_labels x) (as_labels c.as_slice-3.result.now)) c.as_slice-2.ensures.value
    ∙ ap (λ x. join nat_eq (as_labels c.in_ok-low.low.best.items) (as_labels x)) c.as_slice-3.ensures.value in
    gathered_divided c.args.otherwise c.args.left.now c.in_ok-low.low.left.now c.in_ok-high.high.left.now
    c.args.free (c.args.free - 1) c.args.network (c.args.network + c.greatest_of.result + 1)
    c.args.marks.now c.gather.new.marks two joined c.push-2.new.self c.in_ok-low.low.best.items
    c.in_ok-high.high.best.items c.in_ok-best-2.best.items c.as_slice-4.result.now
    (omega (arith, wide)) (omega (arith, e)) c.in_ok-low.ensures c.in_ok-high.ensures is
    c.as_slice-4.ensures.value refl refl c.in_ok-best-2.ensures.clear c.join_labels.ensures.length
    c.in_ok-push-2.ensures.nodes c.in_ok-push-2.ensures.labels c.push-2.ensures.seen
