use Rattle.std.proofs.Common.{◌≡◌, refl, ◌∷◌, [], length, length-append, arith}
use Rattle.std.proofs.Math.Logic.{∥∥₁_elim}
use Rattle.std.proofs.Props.{props}
use Rattle.std.proofs.lemmas.Option.{slice_get_read}
use Rattle.lexing.specs.declared.table.TableState.{TableState}
use Rattle.lexing.proofs.Tables.{rising_of, rules_of, states_more, states_none}
use Rattle.lexing.proofs.machine.Machine.table.Goals as goal

pub loop-at-init : goal.loop-at-init
loop-at-init c = grind (arith, states_none)

pub loop-at-preserved : goal.loop-at-preserved
loop-at-preserved c =
    let machine = c.args.self.now in
    let rows = machine.states.rows.items in
    let rules = machine.states.first_rules.items in
    let table = c.loop-at.states.items in
    let was = c.loop-at.invariant in
    let row = c.index.result.now in
    let rule = c.index-rule.result.now in
    let state : TableState = record { leads = c.in_ok-leads.leads; rule = rule } in
    let here = slice_get_read rows (length rows) c.loop-at.at row refl (omega arith) c.index.ensures in
    let there =
    slice_get_read rules (length rules) c.loop-at.at rule refl (omega (arith, machine.marked))
    c.index-rule.ensures in
    record {
      count = rw c.in_ok-push.ensures.items (omega (arith, length-append table (state ∷ []), was.count));
      are = rw c.in_ok-push.ensures.items
          (states_more machine.states table state row was.are (rw was.count here) c.in_ok-leads.ensures
          (rw was.count there));
    }

pub returns : goal.returns
returns c =
    let machine = c.args.self.now in
    let was = c.loop-at.invariant in
    let same : length c.loop-at.states.items ≡ length machine.states.rows.items = omega (arith, was.count) in
    record {
      rules = λ text characters rule. ∥∥₁_elim machine.sound (hlevel props)
          (λ sound. rules_of machine.lexer machine.states c.loop-at.states.items sound was.are same text
          characters rule);
      rising = rising_of machine.states c.loop-at.states.items was.are;
    }
