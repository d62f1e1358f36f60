use Rattle.std.proofs.Common.{◌≡◌, ℕ, ◌+◌, Ok, IfSome, ◌∙◌, inr, ap, refl, subst, arith}
use Rattle.std.proofs.lemmas.Result.{err_from_is_err_and}
use Rattle.address_lists.specs.Reading.{IsFound}
use Rattle.address_lists.specs.Waiting.{HasSoFar}
use Rattle.address_lists.specs.declared.addresses.Addresses.{Addresses}
use Rattle.address_lists.specs.declared.spans.Waiting.{Waiting}
use Rattle.address_lists.proofs.Reading.{IsReadTo, all_read, fault_found, line_left_out, line_read, other_fault, read_none}
use Rattle.address_lists.proofs.read.read_all.Goals as goal
use Rattle.address_lists.proofs.read.read_all.Goals.{in-Good+in_ok-take-in-Good, in-Other}

pub loop-number-init : goal.loop-number-init
loop-number-init g c = (
  omega arith,
  λ refused. refl,
  read_none c.args.strict c.args.first (g.R.Read.remaining c.args.input.now)
      (HasSoFar c.args.list.now c.args.waiting.now),
)

pub returns-in_err-line-clause-bad : goal.returns-in_err-line-clause-bad
returns-in_err-line-clause-bad g c =
    let error = err_from_is_err_and c.from_residual.result c.from_residual.ensures.1 in
    rw (error.1, error.2)
    (fault_found c.args.strict c.args.first c.args.bad_lines (g.R.Read.remaining c.args.input.now)
    (g.R.Read.remaining c.loop-number.input) c.loop-number.number c.loop-number.others
    (HasSoFar c.args.list.now c.args.waiting.now)
    (HasSoFar c.loop-number.list c.loop-number.waiting) c.in_err-line.field-0.0
    c.loop-number.invariant.1 c.in_err-line.ensures.skipped c.loop-number.invariant.2
    c.in_err-line.ensures.bad)

pub returns-in_err-take-in-Good-clause-bad : goal.returns-in_err-take-in-Good-clause-bad
returns-in_err-take-in-Good-clause-bad g c =
    let error = err_from_is_err_and c.from_residual-in_err-take-in-Good.result
    c.from_residual-in_err-take-in-Good.ensures.1 in
    rw (error.1, error.2)
    (other_fault c.args.strict c.args.first (g.R.Read.remaining c.args.input.now)
    c.in_err-take-in-Good.field-0.0 (inr c.in_err-take-in-Good.ensures.memory))

pub returns-in-End-clause-read : goal.returns-in-End-clause-read
returns-in-End-clause-read g c =
    let rest = g.R.Read.remaining c.loop-number.input in
    let ended = subst (IsFound c.args.strict rest (g.R.Read.remaining c.read_line.new.input))
    c.in-End.is c.in_ok-line.ensures.found in
    all_read c.args.strict c.args.first (g.R.Read.remaining c.args.input.now) rest c.loop-number.number
    c.loop-number.others (HasSoFar c.args.list.now c.args.waiting.now)
    (HasSoFar c.loop-number.list c.loop-number.waiting)
    c.loop-number.invariant.2 ended

as_before : {A B C : Type 0} (P : A → B → C → Type 0) (a a' : A) (b b' : B) (c c' : C) → a ≡ a'
    → b ≡ b' → c ≡ c' → P a' b' c' → P a b c
as_before P a a' b b' c c' p q r h = grind arith

pub loop-number-preserved : goal.loop-number-preserved
loop-number-preserved g c =
    let strict = c.args.strict in
    let first = c.args.first in
    let input = g.R.Read.remaining c.args.input.now in
    let rest = g.R.Read.remaining c.loop-number.input in
    let later = g.R.Read.remaining c.read_line.new.input in
    let number = c.loop-number.number in
    let others = c.loop-number.others in
    let old = HasSoFar c.args.list.now c.args.waiting.now in
    let list = c.loop-number.list in
    let waiting = c.loop-number.waiting in
    let known = c.loop-number.invariant in
    let next = c.match-branch-2 in
    let few = known.0 in
    let Holds : ℕ → Addresses → Waiting → Type 0 =
    λ n l w. IfSome input (λ bytes. IsReadTo strict first bytes later (number + 1) n old (HasSoFar l w)) in
    elim next.branch [
      | in-Good+in_ok-take-in-Good w ↦
          let found =
          subst (IsFound strict rest later) w.in-Good.is c.in_ok-line.ensures.found in
          let same = w.others-is in (
            omega (arith, few, same),
            λ e. same ∙ known.1 e,
            as_before Holds next.others others next.list w.take.new.list next.waiting
                w.take.new.self same w.list-is w.waiting-is
                (line_read strict first input rest later number others old (HasSoFar list waiting)
                (HasSoFar w.take.new.list w.take.new.self) w.in-Good.line known.2 found.1
                w.in_ok-take-in-Good.ensures.taken),
          )
      | in-Other w ↦
          let found =
          subst (IsFound strict rest later) w.in-Other.is c.in_ok-line.ensures.found in
          let more = w.others-is in (
            omega (arith, few, more),
            λ e. absurd (c.in_ok-line.ensures.refused e (ap Ok w.in-Other.is)),
            as_before Holds next.others (others + 1) next.list list next.waiting waiting more
                w.list-is w.waiting-is
                (line_left_out strict first input rest later number others old (HasSoFar list waiting)
                known.2 found),
          )
    ]

pub returns-clause-bad : goal.returns-clause-bad
returns-clause-bad g c = grind (arith, other_fault)
