use Rattle.std.proofs.Common.{◌≡◌, refl, None, subst, ◌∙◌, sym, ◌+◌, ◌-◌, ◌≤◌, drop, map, length, arith, add-one}
use Rattle.std.proofs.lemmas.List.{drop_all, drop_more}
use Rattle.std.proofs.lemmas.Result.{err_from_is_err_and, IfOk-weaker, IfErr-weaker, on_ok_weaker}
use Rattle.regex_hir.specs.Re.{cat, alt, empty, plus}
use Rattle.regex_hir.specs.Meaning.{meaning, cat_all, alt_all, copies, up_to, optional, repeat}
use Rattle.regex_hir.proofs.MeaningLemmas.{meaning-Empty, meaning-Repetition}
use Rattle.lexing_patterns.specs.Sizes.{step_count}
use Rattle.lexing_patterns.specs.Faults.{IsFaultIn}
use Rattle.lexing_patterns.proofs.Faults.{begins, choice_fault, fault_of, front_fault, has_as_choice, has_bounded, has_copies, has_in_optional, has_in_turn, has_once, has_rounds, has_unbounded, some_steps_as_choice, some_steps_in_turn, some_steps_up_to, too_much_of}
use Rattle.lexing_patterns.proofs.Repeating.{repeat_bounded, repeat_star, repeat_plus}
use Rattle.lexing_patterns.proofs.Sizing.{step_optional}
use Rattle.lexing_patterns.proofs.Spending.{optional_too_much, rounds_spent, rounds_too_much, turn_spent, turn_too_much}
use Rattle.lexing_patterns.proofs.builder.Builder.+part.Goals as goal

pub all_of-loop-i-init : goal.all_of-loop-i-init
all_of-loop-i-init t c =
    let none = drop_all (length c.args.subs.now) c.args.subs.now (omega arith) in (
      rw (none, c.empty.ensures.kept) (c.in_ok-all.ensures.built _),
      omega (arith, c.empty.ensures.kept),
      rw none c.in_ok-all.ensures.spent,
    )

pub all_of-loop-i-preserved : goal.all_of-loop-i-preserved
all_of-loop-i-preserved t c =
    let i = c.loop-i.i in
    let sub = c.index-subs-i.result in
    let rest = cat_all (map meaning (drop i c.args.subs.now)) in
    let first = begins c.args.subs.now (i - 1) i sub (omega arith) c.index-subs-i.is (omega arith) in
    let was = c.loop-i.invariant in
    let front = c.in_ok-front.ensures in
    let turn = c.in_ok-all-2.ensures in (
      rw (first, turn.kept)
          (turn.built (meaning sub) rest c.args.self.now.next c.loop-i.self.next
          c.part.new.self.next was.1 front.grows front.built was.0),
      omega (arith, was.1, front.grows, turn.kept),
      rw first
          (turn_spent (meaning sub) rest c.in_ok-front.front c.loop-i.all c.args.self.now.next
          c.loop-i.self.next c.part.new.self.next front.built was.0 c.args.self.now.budget
          c.loop-i.self.budget c.part.new.self.budget was.2 front.spent c.in_turn.new.self.budget
          turn.spent),
    )

pub all_of-returns-clause-built : goal.all_of-returns-clause-built
all_of-returns-clause-built t c =
    let start : c.loop-i.i ≡ 0 = omega arith in rw start at c.loop-i.invariant.0

pub all_of-returns-clause-spent : goal.all_of-returns-clause-spent
all_of-returns-clause-spent t c =
    let start : c.loop-i.i ≡ 0 = omega arith in rw start at c.loop-i.invariant.2

pub all_of-returns-in_err-front-clause-refused : goal.all_of-returns-in_err-front-clause-refused
all_of-returns-in_err-front-clause-refused t c =
    let p = err_from_is_err_and c.from_residual-in_err-front.result c.from_residual-in_err-front.ensures.1 in
    let i = c.loop-i.i in
    let sub = c.index-subs-i.result in
    let rest = cat_all (map meaning (drop i c.args.subs.now)) in
    rw (p.1, p.2)
    (fault_of (cat (meaning sub) rest) (cat_all (map meaning c.args.subs.now))
    (has_in_turn c.args.subs.now (i - 1) i sub (omega arith) c.index-subs-i.is (omega arith))
    c.args.self.now.budget _
    (front_fault (meaning sub) rest c.args.self.now.budget c.loop-i.self.budget
    c.loop-i.invariant.2 _ c.in_err-front.ensures.refused))

pub all_of-returns-in_err-all-2-clause-refused :
    goal.all_of-returns-in_err-all-2-clause-refused
all_of-returns-in_err-all-2-clause-refused t c =
    let p = err_from_is_err_and c.from_residual-in_err-all-2.result c.from_residual-in_err-all-2.ensures.1 in
    let i = c.loop-i.i in
    let sub = c.index-subs-i.result in
    let rest = cat_all (map meaning (drop i c.args.subs.now)) in
    let front = c.in_ok-front.ensures in
    let whole = has_in_turn c.args.subs.now (i - 1) i sub (omega arith) c.index-subs-i.is (omega arith) in
    rw (p.1, p.2)
    (too_much_of (cat_all (map meaning c.args.subs.now)) c.args.self.now.budget
    (step_count (cat (meaning sub) rest)) _ whole.steps
    (turn_too_much (meaning sub) rest c.in_ok-front.front c.loop-i.all c.args.self.now.next
    c.loop-i.self.next c.part.new.self.next front.built c.loop-i.invariant.0
    c.args.self.now.budget c.loop-i.self.budget c.part.new.self.budget c.loop-i.invariant.2
    front.spent _ c.in_err-all-2.ensures.refused))

pub all_of-returns-in_err-all-clause-refused : goal.all_of-returns-in_err-all-clause-refused
all_of-returns-in_err-all-clause-refused t c =
    let p = err_from_is_err_and c.from_residual.result c.from_residual.ensures.1 in
    rw (p.1, p.2)
    (too_much_of (cat_all (map meaning c.args.subs.now)) c.args.self.now.budget 1 _
    (some_steps_in_turn c.args.subs.now) c.in_err-all.ensures.refused)

pub any_of-loop-i-init : goal.any_of-loop-i-init
any_of-loop-i-init t c =
    let none = drop_all (length c.args.subs.now) c.args.subs.now (omega arith) in (
      rw (none, c.nothing.ensures.kept) (c.in_ok-any.ensures.built _),
      omega (arith, c.nothing.ensures.kept),
      rw none c.in_ok-any.ensures.spent,
    )

pub any_of-loop-i-preserved : goal.any_of-loop-i-preserved
any_of-loop-i-preserved t c =
    let i = c.loop-i.i in
    let sub = c.index-subs-i.result in
    let rest = alt_all (map meaning (drop i c.args.subs.now)) in
    let first = begins c.args.subs.now (i - 1) i sub (omega arith) c.index-subs-i.is (omega arith) in
    let was = c.loop-i.invariant in
    let one = c.in_ok-one.ensures in (
      rw first
          (c.in_ok-any-2.ensures.built (meaning sub) rest c.args.self.now.next
          c.loop-i.self.next c.part.new.self.next was.1 one.grows one.built was.0),
      omega (arith, was.1, one.grows),
      rw first (omega (arith, was.2, one.spent)),
    )

pub any_of-returns-clause-built : goal.any_of-returns-clause-built
any_of-returns-clause-built t c =
    let start : c.loop-i.i ≡ 0 = omega arith in rw start at c.loop-i.invariant.0

pub any_of-returns-clause-spent : goal.any_of-returns-clause-spent
any_of-returns-clause-spent t c =
    let start : c.loop-i.i ≡ 0 = omega arith in rw start at c.loop-i.invariant.2

pub any_of-returns-in_err-one-clause-refused : goal.any_of-returns-in_err-one-clause-refused
any_of-returns-in_err-one-clause-refused t c =
    let p = err_from_is_err_and c.from_residual-in_err-one.result c.from_residual-in_err-one.ensures.1 in
    let i = c.loop-i.i in
    let sub = c.index-subs-i.result in
    let rest = alt_all (map meaning (drop i c.args.subs.now)) in
    rw (p.1, p.2)
    (fault_of (alt (meaning sub) rest) (alt_all (map meaning c.args.subs.now))
    (has_as_choice c.args.subs.now (i - 1) i sub (omega arith) c.index-subs-i.is (omega arith))
    c.args.self.now.budget _
    (choice_fault (meaning sub) rest c.args.self.now.budget c.loop-i.self.budget
    c.loop-i.invariant.2 _ c.in_err-one.ensures.refused))

pub any_of-returns-in_err-any-clause-refused : goal.any_of-returns-in_err-any-clause-refused
any_of-returns-in_err-any-clause-refused t c =
    let p = err_from_is_err_and c.from_residual.result c.from_residual.ensures.1 in
    rw (p.1, p.2)
    (too_much_of (alt_all (map meaning c.args.subs.now)) c.args.self.now.budget 1 _
    (some_steps_as_choice c.args.subs.now) c.in_err-any.ensures.refused)

pub copies-loop-done-init : goal.copies-loop-done-init
copies-loop-done-init t c = (λ re low below is. (is, refl), omega arith)

pub copies-loop-done-preserved : goal.copies-loop-done-preserved
copies-loop-done-preserved t c =
    let a = meaning c.args.sub.now in
    let front = c.in_ok-front.ensures in
    let turn = c.in_ok-all.ensures in (
      λ re low below is.
          let was = c.loop-done.invariant.0 re low below is in
          let rest = copies c.loop-done.done a re in
          let middle : low ≤ c.loop-done.self.next = omega (arith, below, c.loop-done.invariant.1) in (
            rw (add-one, turn.kept)
                (turn.built a rest low c.loop-done.self.next c.part.new.self.next middle front.grows
                front.built was.0),
            rw add-one
                (turn_spent a rest c.in_ok-front.front c.loop-done.all low c.loop-done.self.next
                c.part.new.self.next front.built was.0 (c.args.self.now.budget + step_count re)
                c.loop-done.self.budget c.part.new.self.budget was.1 front.spent
                c.in_turn.new.self.budget turn.spent),
          ),
      omega (arith, c.loop-done.invariant.1, front.grows, turn.kept),
    )

pub copies-returns-clause-built : goal.copies-returns-clause-built
copies-returns-clause-built t c = λ re low below is.
    let all : c.loop-done.done ≡ c.args.count = omega arith in
    rw all at (c.loop-done.invariant.0 re low below is).0

pub copies-returns-clause-spent : goal.copies-returns-clause-spent
copies-returns-clause-spent t c = λ re low below is.
    let all : c.loop-done.done ≡ c.args.count = omega arith in
    rw all at (c.loop-done.invariant.0 re low below is).1

pub copies-returns-in_err-front-clause-refused : goal.copies-returns-in_err-front-clause-refused
copies-returns-in_err-front-clause-refused t c =
    let p = err_from_is_err_and c.from_residual.result c.from_residual.ensures.1 in
    let a = meaning c.args.sub.now in
    rw (p.1, p.2)
    (λ re low below is.
    let was = c.loop-done.invariant.0 re low below is in
    fault_of (copies (c.loop-done.done + 1) a re) (copies c.args.count a re)
    (has_copies c.args.count (c.loop-done.done + 1) a re (omega arith))
    (c.args.self.now.budget + step_count re) _
    (rw add-one
    (front_fault a (copies c.loop-done.done a re) (c.args.self.now.budget + step_count re)
    c.loop-done.self.budget was.1 _ c.in_err-front.ensures.refused)))

pub copies-returns-in_err-all-clause-refused : goal.copies-returns-in_err-all-clause-refused
copies-returns-in_err-all-clause-refused t c =
    let p = err_from_is_err_and c.from_residual-in_err-all.result c.from_residual-in_err-all.ensures.1 in
    let a = meaning c.args.sub.now in
    let front = c.in_ok-front.ensures in
    rw (p.1, p.2)
    (λ re low below is.
    let was = c.loop-done.invariant.0 re low below is in
    let rest = copies c.loop-done.done a re in
    let fewer = rw add-one at (has_copies c.args.count (c.loop-done.done + 1) a re (omega arith)) in
    too_much_of (copies c.args.count a re) (c.args.self.now.budget + step_count re)
    (step_count (cat a rest)) _ fewer.steps
    (turn_too_much a rest c.in_ok-front.front c.loop-done.all low c.loop-done.self.next
    c.part.new.self.next front.built was.0 (c.args.self.now.budget + step_count re)
    c.loop-done.self.budget c.part.new.self.budget was.1 front.spent _
    c.in_err-all.ensures.refused))

pub up_to-loop-done-init : goal.up_to-loop-done-init
up_to-loop-done-init t c = (
  λ greedy. (
    rw c.empty.ensures.kept (c.in_ok-all.ensures.built _),
    c.in_ok-all.ensures.spent,
  ),
  omega (arith, c.empty.ensures.kept),
)

pub up_to-loop-done-preserved : goal.up_to-loop-done-preserved
up_to-loop-done-preserved t c =
    let a = meaning c.args.sub.now in
    let front = c.in_ok-front.ensures in
    let turn = c.in_ok-some.ensures in
    let last = c.in_ok-all-2.ensures in (
      λ greedy.
          let was = c.loop-done.invariant.0 greedy in
          let rest = up_to greedy c.loop-done.done a in
          let spent = turn_spent a rest c.in_ok-front.front c.loop-done.all c.args.self.now.next
          c.loop-done.self.next c.part.new.self.next front.built was.0 c.args.self.now.budget
          c.loop-done.self.budget c.part.new.self.budget was.1 front.spent
          c.in_turn.new.self.budget turn.spent in (
            rw (add-one, last.kept, turn.kept)
                (last.built greedy (cat a rest) c.args.self.now.next c.part.new.self.next
                (turn.built a rest c.args.self.now.next c.loop-done.self.next
                c.part.new.self.next c.loop-done.invariant.1 front.grows front.built was.0)),
            rw add-one (omega (arith, spent, last.spent, step_optional greedy (cat a rest))),
          ),
      omega (arith, c.loop-done.invariant.1, front.grows, turn.kept, last.kept),
    )

pub up_to-returns-clause-built : goal.up_to-returns-clause-built
up_to-returns-clause-built t c = λ greedy.
    let all : c.loop-done.done ≡ c.args.most = omega arith in
    rw all at (c.loop-done.invariant.0 greedy).0

pub up_to-returns-clause-spent : goal.up_to-returns-clause-spent
up_to-returns-clause-spent t c = λ greedy.
    let all : c.loop-done.done ≡ c.args.most = omega arith in
    rw all at (c.loop-done.invariant.0 greedy).1

pub up_to-returns-in_err-all-clause-refused : goal.up_to-returns-in_err-all-clause-refused
up_to-returns-in_err-all-clause-refused t c =
    let p = err_from_is_err_and c.from_residual.result c.from_residual.ensures.1 in
    rw (p.1, p.2)
    (λ greedy. too_much_of (up_to greedy c.args.most (meaning c.args.sub.now))
    c.args.self.now.budget 1 _ (some_steps_up_to greedy c.args.most (meaning c.args.sub.now))
    c.in_err-all.ensures.refused)

pub up_to-returns-in_err-front-clause-refused : goal.up_to-returns-in_err-front-clause-refused
up_to-returns-in_err-front-clause-refused t c =
    let p = err_from_is_err_and c.from_residual-in_err-front.result c.from_residual-in_err-front.ensures.1 in
    let a = meaning c.args.sub.now in
    rw (p.1, p.2)
    (λ greedy.
    let turn = cat a (up_to greedy c.loop-done.done a) in
    fault_of (optional greedy turn) (up_to greedy c.args.most a)
    (rw add-one at (has_rounds greedy c.args.most (c.loop-done.done + 1) a (omega arith)))
    c.args.self.now.budget _
    (fault_of turn (optional greedy turn) (has_in_optional greedy turn) c.args.self.now.budget _
    (front_fault a (up_to greedy c.loop-done.done a) c.args.self.now.budget
    c.loop-done.self.budget (c.loop-done.invariant.0 greedy).1 _ c.in_err-front.ensures.refused)))

pub up_to-returns-in_err-some-clause-refused : goal.up_to-returns-in_err-some-clause-refused
up_to-returns-in_err-some-clause-refused t c =
    let p = err_from_is_err_and c.from_residual-in_err-some.result c.from_residual-in_err-some.ensures.1 in
    let a = meaning c.args.sub.now in
    let front = c.in_ok-front.ensures in
    rw (p.1, p.2)
    (λ greedy.
    let was = c.loop-done.invariant.0 greedy in
    let rest = up_to greedy c.loop-done.done a in
    let fewer = rw add-one at (has_rounds greedy c.args.most (c.loop-done.done + 1) a (omega arith)) in
    let turn = has_in_optional greedy (cat a rest) in
    too_much_of (up_to greedy c.args.most a) c.args.self.now.budget (step_count (cat a rest)) _
    (omega (arith, fewer.steps, turn.steps))
    (turn_too_much a rest c.in_ok-front.front c.loop-done.all c.args.self.now.next
    c.loop-done.self.next c.part.new.self.next front.built was.0 c.args.self.now.budget
    c.loop-done.self.budget c.part.new.self.budget was.1 front.spent _
    c.in_err-some.ensures.refused))

pub up_to-returns-in_err-all-2-clause-refused :
    goal.up_to-returns-in_err-all-2-clause-refused
up_to-returns-in_err-all-2-clause-refused t c =
    let p = err_from_is_err_and c.from_residual-in_err-all-2.result c.from_residual-in_err-all-2.ensures.1 in
    let a = meaning c.args.sub.now in
    let front = c.in_ok-front.ensures in
    rw (p.1, p.2)
    (λ greedy.
    let was = c.loop-done.invariant.0 greedy in
    let rest = up_to greedy c.loop-done.done a in
    let fewer = rw add-one at (has_rounds greedy c.args.most (c.loop-done.done + 1) a (omega arith)) in
    let spent = turn_spent a rest c.in_ok-front.front c.loop-done.all c.args.self.now.next
    c.loop-done.self.next c.part.new.self.next front.built was.0 c.args.self.now.budget
    c.loop-done.self.budget c.part.new.self.budget was.1 front.spent
    c.in_turn.new.self.budget c.in_ok-some.ensures.spent in
    too_much_of (up_to greedy c.args.most a) c.args.self.now.budget
    (step_count (optional greedy (cat a rest))) _ fewer.steps
    (optional_too_much greedy (cat a rest) c.args.self.now.budget c.in_turn.new.self.budget spent _
    c.in_err-all-2.ensures.refused))

pub part-returns-in-Empty-clause-built : goal.part-returns-in-Empty-clause-built
part-returns-in-Empty-clause-built t c =
    IfOk-weaker c.empty.result _ _
    (λ r is. rw (c.in-Empty.is, meaning-Empty, c.empty.ensures.kept) (is c.args.self.now.next))
    c.empty.ensures.built

pub repetition-returns-in_ok-rest-in-Some-clause-built : goal.repetition-returns-in_ok-rest-in-Some-clause-built
repetition-returns-in_ok-rest-in-Some-clause-built t c =
    let rest = c.in_ok-rest-in-Some.ensures in
    IfOk-weaker c.copies.result _ _
    (λ r more greedy.
    rw (c.in-Some.is, repeat_bounded, ← c.saturating_sub.ensures)
    (more _ c.args.self.now.next rest.grows (rest.built greedy)))
    c.copies.ensures.built

pub repetition-returns-in_ok-rest-in-Some-clause-spent : goal.repetition-returns-in_ok-rest-in-Some-clause-spent
repetition-returns-in_ok-rest-in-Some-clause-spent t c =
    let rest = c.in_ok-rest-in-Some.ensures in
    on_ok_weaker c.copies.result
    (λ more greedy.
    rw (c.in-Some.is, repeat_bounded, ← c.saturating_sub.ensures)
    (rest.spent greedy ∙ more _ c.args.self.now.next rest.grows (rest.built greedy)))
    c.copies.ensures.spent

pub repetition-returns-then-min-eq0-clause-built : goal.repetition-returns-then-min-eq0-clause-built
repetition-returns-then-min-eq0-clause-built t c =
    let once = c.in_ok-once-in-None.ensures in
    let rest = c.in_ok-rest-in-None.ensures in
    IfOk-weaker c.optional.result _ _
    (λ r made greedy.
    rw (c.in-None.is, c.if-min-eq0.true, repeat_star, c.optional.ensures.kept, rest.kept)
    (made greedy _ c.args.self.now.next c.part.new.self.next
    (rest.built greedy (meaning c.args.sub.now) c.args.self.now.next c.part.new.self.next once.built)))
    c.optional.ensures.built

pub repetition-returns-then-min-eq0-clause-spent : goal.repetition-returns-then-min-eq0-clause-spent
repetition-returns-then-min-eq0-clause-spent t c =
    let a = meaning c.args.sub.now in
    let once = c.in_ok-once-in-None.ensures in
    let rest = c.in_ok-rest-in-None.ensures in
    on_ok_weaker c.optional.result
    (λ last greedy.
    let spent = rounds_spent greedy a c.in_ok-once-in-None.once c.args.self.now.next
    c.part.new.self.next c.args.self.now.budget c.part.new.self.budget once.built once.spent
    c.repeated.new.self.budget rest.spent in
    rw (c.in-None.is, c.if-min-eq0.true, repeat_star)
    (omega (arith, spent, last, step_optional greedy (plus greedy a))))
    c.optional.ensures.spent

pub repetition-returns-else-min-eq0-clause-built : goal.repetition-returns-else-min-eq0-clause-built
repetition-returns-else-min-eq0-clause-built t c =
    let once = c.in_ok-once-in-None.ensures in
    let rest = c.in_ok-rest-in-None.ensures in
    IfOk-weaker c.copies-in-None.result _ _
    (λ r more greedy.
    rw (c.in-None.is, repeat_plus _ _ _ c.if-min-eq0.false)
    (more _ c.args.self.now.next (omega (arith, once.grows, rest.kept))
    (rw rest.kept
    (rest.built greedy (meaning c.args.sub.now) c.args.self.now.next c.part.new.self.next
    once.built))))
    c.copies-in-None.ensures.built

pub repetition-returns-else-min-eq0-clause-spent : goal.repetition-returns-else-min-eq0-clause-spent
repetition-returns-else-min-eq0-clause-spent t c =
    let a = meaning c.args.sub.now in
    let once = c.in_ok-once-in-None.ensures in
    let rest = c.in_ok-rest-in-None.ensures in
    on_ok_weaker c.copies-in-None.result
    (λ more greedy.
    let spent = rounds_spent greedy a c.in_ok-once-in-None.once c.args.self.now.next
    c.part.new.self.next c.args.self.now.budget c.part.new.self.budget once.built once.spent
    c.repeated.new.self.budget rest.spent in
    rw (c.in-None.is, repeat_plus _ _ _ c.if-min-eq0.false)
    (spent
    ∙ more (plus greedy a) c.args.self.now.next (omega (arith, once.grows, rest.kept))
    (rw rest.kept (rest.built greedy a c.args.self.now.next c.part.new.self.next once.built))))
    c.copies-in-None.ensures.spent

pub part-returns-in-Repetition-clause-spent : goal.part-returns-in-Repetition-clause-spent
part-returns-in-Repetition-clause-spent t c =
    on_ok_weaker c.repetition.result
    (λ spent. grind (arith, meaning-Repetition, spent c.in-Repetition.greedy))
    c.repetition.ensures.spent

pub part-returns-in-Repetition-clause-refused : goal.part-returns-in-Repetition-clause-refused
part-returns-in-Repetition-clause-refused t c =
    IfErr-weaker c.repetition.result _ _
    (λ error fault.
    grind (arith, meaning-Repetition, fault c.in-Repetition.greedy))
    c.repetition.ensures.refused

pub repetition-returns-in_err-rest-in-Some-clause-refused :
    goal.repetition-returns-in_err-rest-in-Some-clause-refused
repetition-returns-in_err-rest-in-Some-clause-refused t c =
    let p = err_from_is_err_and c.from_residual.result c.from_residual.ensures.1 in
    let a = meaning c.args.sub.now in
    rw (p.1, p.2, c.in-Some.is)
    (λ greedy.
    fault_of (up_to greedy (c.in-Some.max - c.args.min) a) _
    (has_bounded c.args.min greedy a c.in-Some.max) c.args.self.now.budget _
    (rw c.saturating_sub.ensures at (c.in_err-rest-in-Some.ensures.refused greedy)))

pub repetition-returns-in_err-once-in-None-clause-refused :
    goal.repetition-returns-in_err-once-in-None-clause-refused
repetition-returns-in_err-once-in-None-clause-refused t c =
    let p =
    err_from_is_err_and c.from_residual-in_err-once-in-None.result
    c.from_residual-in_err-once-in-None.ensures.1 in
    let a = meaning c.args.sub.now in
    rw (p.1, p.2, c.in-None.is)
    (λ greedy.
    fault_of a _ (has_once c.args.min greedy a) c.args.self.now.budget _
    c.in_err-once-in-None.ensures.refused)

pub repetition-returns-in_err-rest-in-None-clause-refused :
    goal.repetition-returns-in_err-rest-in-None-clause-refused
repetition-returns-in_err-rest-in-None-clause-refused t c =
    let p =
    err_from_is_err_and c.from_residual-in_err-rest-in-None.result
    c.from_residual-in_err-rest-in-None.ensures.1 in
    let a = meaning c.args.sub.now in
    let once = c.in_ok-once-in-None.ensures in
    rw (p.1, p.2, c.in-None.is)
    (λ greedy.
    let whole = has_unbounded c.args.min greedy a in
    too_much_of (repeat c.args.min None greedy a) c.args.self.now.budget (step_count (plus greedy a)) _ whole.steps
    (rounds_too_much greedy a c.in_ok-once-in-None.once c.args.self.now.next
    c.part.new.self.next c.args.self.now.budget c.part.new.self.budget once.built once.spent _
    c.in_err-rest-in-None.ensures.refused))

pub repetition-returns-then-min-eq0-clause-refused :
    goal.repetition-returns-then-min-eq0-clause-refused
repetition-returns-then-min-eq0-clause-refused t c =
    let a = meaning c.args.sub.now in
    let once = c.in_ok-once-in-None.ensures in
    let rest = c.in_ok-rest-in-None.ensures in
    IfErr-weaker c.optional.result _ _
    (λ error too_much greedy.
    let spent = rounds_spent greedy a c.in_ok-once-in-None.once c.args.self.now.next
    c.part.new.self.next c.args.self.now.budget c.part.new.self.budget once.built once.spent
    c.repeated.new.self.budget rest.spent in
    rw (c.in-None.is, c.if-min-eq0.true, repeat_star)
    (too_much_of (optional greedy (plus greedy a)) c.args.self.now.budget
    (step_count (optional greedy (plus greedy a))) error (omega arith)
    (optional_too_much greedy (plus greedy a) c.args.self.now.budget c.repeated.new.self.budget
    spent error too_much)))
    c.optional.ensures.refused

pub repetition-returns-in_ok-rest-in-Some-clause-refused :
    goal.repetition-returns-in_ok-rest-in-Some-clause-refused
repetition-returns-in_ok-rest-in-Some-clause-refused t c =
    let rest = c.in_ok-rest-in-Some.ensures in
    let a = meaning c.args.sub.now in
    IfErr-weaker c.copies.result _ _
    (λ error fault greedy.
    let re = up_to greedy c.saturating_sub.result a in
    rw (c.in-Some.is, repeat_bounded, ← c.saturating_sub.ensures)
    (subst (λ b. IsFaultIn b (copies c.args.min a re) error) (sym (rest.spent greedy))
    (fault re c.args.self.now.next rest.grows (rest.built greedy))))
    c.copies.ensures.refused

pub repetition-returns-else-min-eq0-clause-refused :
    goal.repetition-returns-else-min-eq0-clause-refused
repetition-returns-else-min-eq0-clause-refused t c =
    let a = meaning c.args.sub.now in
    let once = c.in_ok-once-in-None.ensures in
    let rest = c.in_ok-rest-in-None.ensures in
    IfErr-weaker c.copies-in-None.result _ _
    (λ error fault greedy.
    let spent = rounds_spent greedy a c.in_ok-once-in-None.once c.args.self.now.next
    c.part.new.self.next c.args.self.now.budget c.part.new.self.budget once.built once.spent
    c.repeated.new.self.budget rest.spent in
    rw (c.in-None.is, repeat_plus _ _ _ c.if-min-eq0.false)
    (subst (λ b. IsFaultIn b (copies (c.args.min - 1) a (plus greedy a)) error) (sym spent)
    (fault (plus greedy a) c.args.self.now.next (omega (arith, once.grows, rest.kept))
    (rw rest.kept (rest.built greedy a c.args.self.now.next c.part.new.self.next once.built)))))
    c.copies-in-None.ensures.refused
