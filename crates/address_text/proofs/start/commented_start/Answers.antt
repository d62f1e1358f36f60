use Rattle.std.proofs.Common.{sym, ◌∙◌, arith}
use Rattle.address_text.proofs.Comments.{opens_comment, sign_found}
use Rattle.address_text.proofs.start.commented_start.Goals as goal
use Rattle.address_text.proofs.start.commented_start.Goals.{in_default-via-in-Some+else-start-at-eq35, in_default-via-in_default}

pub returns-in-Some-clause-comment : goal.returns-in-Some-clause-comment
returns-in-Some-clause-comment c =
    opens_comment c.args.start.now c.in-Some.at (sym c.in-Some.is ∙ c.text_end.ensures)
    c.if-start-at-eq35.true

pub returns-in_default-clause-none : goal.returns-in_default-clause-none
returns-in_default-clause-none c = λ is text starts opens.
    let (at, found, sign) = sign_found c.args.start.now text starts opens in
    let told = c.text_end.ensures ∙ found in
    elim c.in_default.branch [
      | in_default-via-in-Some+else-start-at-eq35 w ↦
          let other = w.in-Some.is in
          let none = w.if-start-at-eq35.false in
          grind arith
      | in_default-via-in_default w ↦ let none = w.in_default in grind arith
    ]
