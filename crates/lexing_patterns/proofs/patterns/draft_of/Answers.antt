use Rattle.std.proofs.Common.{refl, inr, [], ◌∷◌, ◌++◌, ◌≤◌, List, take, take_all, length, length-append, get_or, false, arith}
use Rattle.std.proofs.lemmas.List.{take_more}
use Rattle.std.proofs.lemmas.Option.{slice_get-get_or}
use Rattle.regex_hir.specs.Re.{Re}
use Rattle.lexing_patterns.specs.declared.patterns.PatternRule.{PatternRule}
use Rattle.lexing_patterns.specs.Patterns.{IsReadAs, AreReadAs}
use Rattle.lexing_patterns.specs.Faults.{AreTaken}
use Rattle.lexing_patterns.specs.Sizes.{step_budget, total_steps}
use Rattle.lexing_patterns.proofs.Totals.{no_more_rules}
use Rattle.lexing_patterns.proofs.patterns.draft_of.Goals as goal

read_more : (rules : List PatternRule) (res : List Re) (rule : PatternRule) (re : Re)
    → AreReadAs rules res → IsReadAs rule.pattern.now re
    → AreReadAs (rules ++ rule ∷ []) (res ++ re ∷ [])
read_more [] [] rule re h is = (is, tt)
read_more [] (x ∷ res) rule re h is = absurd h
read_more (r ∷ rules) [] rule re h is = absurd h
read_more (r ∷ rules) (x ∷ res) rule re h is = (h.0, read_more rules res rule re h.1 is)

abbrev no_rule : PatternRule
no_rule = record {
  name = record { ref_ptr = (0, 0); now = [] };
  pattern = record { ref_ptr = (0, 0); now = [] };
  skipped = false;
}

pub loop-i-init : goal.loop-i-init
loop-i-init c = ([], refl, tt, c.new-draft.ensures)

pub loop-i-preserved : goal.loop-i-preserved
loop-i-preserved c =
    let (res, len, read, draft) = c.loop-i.invariant in
    let (re, is, more) = c.in-Ok.ensures.added res len draft in
    grind (
      arith,
      length-append res (re ∷ []),
      take_more c.args.rules.now c.loop-i.i no_rule c.loop-i-test.true,
      read_more,
    )

pub returns-clause-drafted : goal.returns-clause-drafted
returns-clause-drafted c =
    grind (arith, take_all)

pub add_pattern-requires : goal.add_pattern-requires
add_pattern-requires c =
    let (res, len, read, draft) = c.loop-i.invariant in
    omega (arith, len, draft.spent, no_more_rules res)

pub returns-in-Err-clause-refused : goal.returns-in-Err-clause-refused
returns-in-Err-clause-refused c =
    let (res, len, read, draft) = c.loop-i.invariant in
    let few : total_steps res ≤ step_budget = omega (arith, draft.spent) in
    let taken : AreTaken (take c.loop-i.i c.args.rules.now) res =
    record { read = read; taken = draft.taken; few = few } in
    let fault = c.in-Err.ensures.refused res draft in
    grind (arith, slice_get-get_or c.args.rules.now c.loop-i.i no_rule c.loop-i-test.true)
