use Rattle.std.proofs.Common.{ℕ, ◌+◌, ◌∙◌, Ok, IfSome, ap, subst, sym, arith}
use Rattle.std.proofs.lemmas.Result.{err_from_is_err_and}
use Rattle.address_rows.specs.Lines.{IsSkipped}
use Rattle.address_table_lists.specs.Reading.{IsFound, SaysIn}
use Rattle.address_table_lists.proofs.ReadRows.{IsReadTo, all_read, fault_found, nothing_read, other_fault, other_read, read_none, row_read}
use Rattle.address_table_lists.proofs.read.read_rows.Goals as goal
use Rattle.address_table_lists.proofs.read.read_rows.Goals.{in-Said, in-Nothing, in-Other}

pub loop-number-init : goal.loop-number-init
loop-number-init g c = grind (arith, read_none)

pub returns-in_err-read_row-clause-bad : goal.returns-in_err-read_row-clause-bad
returns-in_err-read_row-clause-bad g c =
    let error = err_from_is_err_and c.from_residual.result c.from_residual.ensures.1 in
    rw (error.1, error.2)
    (fault_found (SaysIn c.args.reading) (IsSkipped c.args.header.now) c.args.reading.bad_lines
    (g.R.Read.remaining c.args.input.now) (g.R.Read.remaining c.loop-number.input)
    c.loop-number.number c.loop-number.others c.args.rows.now c.loop-number.rows
    c.in_err-read_row.field-0.0 c.loop-number.invariant.1 c.in_err-read_row.ensures.skipped
    c.loop-number.invariant.2 c.in_err-read_row.ensures.bad)

pub returns-in-End-clause-read : goal.returns-in-End-clause-read
returns-in-End-clause-read g c =
    let left = g.R.Read.remaining c.loop-number.input in
    let later = g.R.Read.remaining c.read_row.new.input in
    let Says = SaysIn c.args.reading in
    let Skipped = IsSkipped c.args.header.now in
    let ended = subst (IsFound Says Skipped left later c.loop-number.rows c.read_row.new.rows)
    c.in-End.is c.in_ok-read_row.ensures.found in
    all_read Says Skipped (g.R.Read.remaining c.args.input.now) left later c.loop-number.number
    c.loop-number.others c.args.rows.now c.loop-number.rows c.read_row.new.rows
    c.loop-number.invariant.2 ended

pub returns-clause-bad : goal.returns-clause-bad
returns-clause-bad g c = grind (arith, other_fault)

pub loop-number-preserved : goal.loop-number-preserved
loop-number-preserved g c =
    let input = g.R.Read.remaining c.args.input.now in
    let left = g.R.Read.remaining c.loop-number.input in
    let later = g.R.Read.remaining c.read_row.new.input in
    let Says = SaysIn c.args.reading in
    let Skipped = IsSkipped c.args.header.now in
    let number = c.loop-number.number in
    let others = c.loop-number.others in
    let old = c.args.rows.now in
    let mid = c.loop-number.rows in
    let new = c.read_row.new.rows in
    let known = c.loop-number.invariant in
    let next = c.match-branch-2 in
    let few = known.0 in
    let Holds : ℕ → Type 0 =
    λ n. IfSome input (λ bytes. IsReadTo Says Skipped bytes later (number + 1) n old new) in
    elim next.branch [
      | in-Said w ↦
          let found = subst (IsFound Says Skipped left later mid new) w.in-Said.is
          c.in_ok-read_row.ensures.found in
          let same = w.others-is in (
            omega (arith, few, same),
            λ refused. same ∙ known.1 refused,
            subst Holds (sym same) (row_read Says Skipped input left later number others old mid new
                known.2 found),
          )
      | in-Nothing w ↦
          let found = subst (IsFound Says Skipped left later mid new) w.in-Nothing.is
          c.in_ok-read_row.ensures.found in
          let same = w.others-is in (
            omega (arith, few, same),
            λ refused. same ∙ known.1 refused,
            subst Holds (sym same) (nothing_read Says Skipped input left later number others old mid new
                known.2 found),
          )
      | in-Other w ↦
          let found = subst (IsFound Says Skipped left later mid new) w.in-Other.is
          c.in_ok-read_row.ensures.found in
          let more = w.others-is in (
            omega (arith, few, more),
            λ refused. absurd (c.in_ok-read_row.ensures.refused refused (ap Ok w.in-Other.is)),
            subst Holds (sym more) (other_read Says Skipped input left later number others old mid new
                known.2 found),
          )
    ]
