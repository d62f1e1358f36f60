use Rattle.std.proofs.Common.{◌≡◌, refl, arith}
use Rattle.address_text.specs.declared.family.Family.TheVariants.{V4, V6}
use Rattle.address_text.specs.declared.line.Line.TheVariants.{Addresses}
use Rattle.address_table_lists.proofs.Held.{hold_nothing, hold_v4, hold_v6}
use Rattle.address_table_lists.proofs.rows.Rows.add.Goals as goal

pub returns-in-Nothing : goal.returns-in-Nothing
returns-in-Nothing c =
    let old = c.args.self.now in
    let grown = c.in_ok-value.ensures.kept in
    rw c.in-Nothing.is
    (λ rows held. hold_nothing old
    (record { texts = c.number_of.new.self; v4 = old.v4; v6 = old.v6 }) grown.0
    c.args.value.now rows c.in_ok-value.ensures.different grown.1 refl refl held)

pub returns-in_ok-push-in-Addresses-V4-default-default : goal.returns-in_ok-push-in-Addresses-V4-default-default
returns-in_ok-push-in-Addresses-V4-default-default c =
    let old = c.args.self.now in
    let grown = c.in_ok-value.ensures.kept in
    let at = c.in-Addresses-V4-default-default in
    let is : c.args.line ≡ Addresses V4 at.first at.last = grind arith in
    rw is
    (λ rows held. hold_v4 old
    (record { texts = c.number_of.new.self; v4 = c.push.new.self; v6 = old.v6 }) grown.0
    at.first at.last c.in_ok-value.value c.args.value.now rows c.in_ok-value.ensures.different
    grown.1 c.in_ok-value.ensures.found
    c.in_ok-push-in-Addresses-V4-default-default.ensures.items refl held)

pub returns-in_ok-push-in-Addresses-V6-default-default : goal.returns-in_ok-push-in-Addresses-V6-default-default
returns-in_ok-push-in-Addresses-V6-default-default c =
    let old = c.args.self.now in
    let grown = c.in_ok-value.ensures.kept in
    let at = c.in-Addresses-V6-default-default in
    let is : c.args.line ≡ Addresses V6 at.first at.last = grind arith in
    rw is
    (λ rows held. hold_v6 old
    (record { texts = c.number_of.new.self; v4 = old.v4; v6 = c.push-in-Addresses-V6-default-default.new.self })
    grown.0 at.first at.last c.in_ok-value.value c.args.value.now rows
    c.in_ok-value.ensures.different grown.1 c.in_ok-value.ensures.found
    c.in_ok-push-in-Addresses-V6-default-default.ensures.items refl held)
