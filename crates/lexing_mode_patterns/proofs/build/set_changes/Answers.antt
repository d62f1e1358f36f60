use Rattle.std.proofs.Common.{◌∙◌, inl, inr, arith}
use Rattle.std.proofs.lemmas.Bool.{cases_eq}
use Rattle.lexing_mode_patterns.proofs.build.set_changes.Goals as goal

pub returns-in_err-set_changes_in-clause-scanners : goal.returns-in_err-set_changes_in-clause-scanners
returns-in_err-set_changes_in-clause-scanners c = λ mode scanner is.
    c.in_err-set_changes_in.ensures.scanners mode scanner
    (c.loop-mode.invariant.scanners mode scanner is)

pub loop-mode-preserved : goal.loop-mode-preserved
loop-mode-preserved c =
    let was = c.loop-mode.invariant in
    let set = c.in_ok-set_changes_in.ensures in
    record {
      set = λ mode within. elim (cases_eq mode c.loop-mode.mode) [
        | inl is ↦ rw is (rw (c.deref.ensures.value, c.in_ok-held.ensures) at set.set)
        | inr apart ↦ λ i rule at.
            set.others mode i apart ∙ was.set mode (omega (arith, within, apart)) i rule at
      ];
      count = set.count ∙ was.count;
      scanners = λ mode scanner is. set.scanners mode scanner (was.scanners mode scanner is);
    }
