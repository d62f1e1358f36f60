use Rattle.std.proofs.Common.{◌≡◌, ◌≤◌, [], ◌∷◌, drop, length, arith}
use Rattle.std.proofs.lemmas.List.{drop_all}
use Rattle.std.proofs.lemmas.Result.{err_from_is_err_and}
use Rattle.std.specs.Str.{encode_utf8_all}
use Rattle.regex_hir.specs.Re.{cat, literal, char_in}
use Rattle.lexing_patterns.proofs.Faults.{too_much_of}
use Rattle.lexing_patterns.proofs.Literals.{begun_steps, coded_read, literal_ends, literal_begins, no_text_steps, scalars_read, some_steps, whole_steps}
use Rattle.lexing_patterns.specs.Sizes.{step_count}
use Rattle.lexing_patterns.proofs.Spending.{front_too_much, turn_spent, turn_too_much}
use Rattle.lexing_patterns.proofs.builder.Builder.literal.Goals as goal

pub loop-i-init : goal.loop-i-init
loop-i-init c =
    let end : drop c.len-i.result c.in_ok-characters.characters.items ≡ [] =
    drop_all c.len-i.result c.in_ok-characters.characters.items
    (omega (arith, c.len-i.ensures, c.in_ok-characters.characters.ok.0)) in (
      rw (end, c.empty.ensures.kept)
          (literal_ends c.in_ok-all.all c.args.self.now.next c.args.self.now.next
          (c.in_ok-all.ensures.built c.args.self.now.next)),
      omega (arith, c.empty.ensures.kept),
      rw end (omega (arith, c.in_ok-all.ensures.spent, no_text_steps)),
    )

pub loop-i-preserved : goal.loop-i-preserved
loop-i-preserved c =
    let cs = c.in_ok-characters.characters.items in
    let d = c.index.result.now in
    let turn = c.in_ok-all-2.ensures in
    let front = c.in_ok-front.ensures in
    let was = c.loop-i.invariant in
    let within : c.loop-i.i ≤ length cs = omega (arith, c.loop-i.auto.i, c.len-i.ensures, c.in_ok-characters.characters.ok.0) in
    let scalars =
    scalars_read cs c.in-Ok.text.now c.args.bytes.now c.in_ok-characters.ensures
    c.in-Ok.ensures.cases.0 c.in-Ok.ensures.cases.1 in (
      literal_begins cs c.loop-i.i d c.in_ok-all-2.all c.args.self.now.next
          c.in_turn.new.self.next scalars c.loop-i-test.true within c.index.ensures
          (rw turn.kept
          (turn.built (char_in ((d, d) ∷ []))
          (literal (encode_utf8_all (drop c.loop-i.i cs))) c.args.self.now.next c.loop-i.self.next
          c.character.new.self.next was.1 front.grows front.built was.0)),
      omega (arith, was.1, front.grows, turn.kept),
      omega (
        arith,
        begun_steps cs c.loop-i.i d scalars c.loop-i-test.true within c.index.ensures,
        turn_spent (char_in ((d, d) ∷ [])) (literal (encode_utf8_all (drop c.loop-i.i cs))) c.in_ok-front.front c.loop-i.all c.args.self.now.next c.loop-i.self.next c.character.new.self.next front.built was.0 c.args.self.now.budget c.loop-i.self.budget c.character.new.self.budget was.2 front.spent c.in_turn.new.self.budget turn.spent,
      ),
    )

pub returns-clause-built : goal.returns-clause-built
returns-clause-built c =
    let cs = c.in_ok-characters.characters.items in
    let start : c.loop-i.i ≡ 0 = omega (arith, c.loop-i-test.false) in
    let coded =
    coded_read cs c.in-Ok.text.now c.args.bytes.now c.in_ok-characters.ensures
    c.in-Ok.ensures.cases.0 c.in-Ok.ensures.cases.1 in
    rw (← coded) (rw start at c.loop-i.invariant.0)

pub returns-clause-spent : goal.returns-clause-spent
returns-clause-spent c =
    let cs = c.in_ok-characters.characters.items in
    let start : c.loop-i.i ≡ 0 = omega (arith, c.loop-i-test.false) in
    let coded =
    coded_read cs c.in-Ok.text.now c.args.bytes.now c.in_ok-characters.ensures
    c.in-Ok.ensures.cases.0 c.in-Ok.ensures.cases.1 in
    rw (← coded) (rw start at c.loop-i.invariant.2)

pub returns-in_err-all-clause-refused : goal.returns-in_err-all-clause-refused
returns-in_err-all-clause-refused c =
    let cs = c.in_ok-characters.characters.items in
    let p = err_from_is_err_and c.from_residual-in_err-all.result c.from_residual-in_err-all.ensures.1 in
    let coded =
    coded_read cs c.in-Ok.text.now c.args.bytes.now c.in_ok-characters.ensures
    c.in-Ok.ensures.cases.0 c.in-Ok.ensures.cases.1 in
    let scalars =
    scalars_read cs c.in-Ok.text.now c.args.bytes.now c.in_ok-characters.ensures
    c.in-Ok.ensures.cases.0 c.in-Ok.ensures.cases.1 in
    rw (p.1, p.2, ← coded)
    (too_much_of (literal (encode_utf8_all c.in_ok-characters.characters.items)) _ 1 _
    (some_steps c.in_ok-characters.characters.items scalars) c.in_err-all.ensures.refused)

pub returns-in_err-front-clause-refused : goal.returns-in_err-front-clause-refused
returns-in_err-front-clause-refused c =
    let cs = c.in_ok-characters.characters.items in
    let scalars =
    scalars_read cs c.in-Ok.text.now c.args.bytes.now c.in_ok-characters.ensures
    c.in-Ok.ensures.cases.0 c.in-Ok.ensures.cases.1 in
    let coded =
    coded_read cs c.in-Ok.text.now c.args.bytes.now c.in_ok-characters.ensures
    c.in-Ok.ensures.cases.0 c.in-Ok.ensures.cases.1 in
    let p = err_from_is_err_and c.from_residual-in_err-front.result c.from_residual-in_err-front.ensures.1 in
    let d = c.index.result.now in
    let rest = literal (encode_utf8_all (drop c.loop-i.i cs)) in
    let within : c.loop-i.i ≤ length cs = omega (arith, c.loop-i.auto.i, c.len-i.ensures, c.in_ok-characters.characters.ok.0) in
    let less = whole_steps cs c.loop-i.i d scalars c.loop-i-test.true within c.index.ensures in
    rw (p.1, p.2, ← coded)
    (too_much_of (literal (encode_utf8_all cs)) c.args.self.now.budget
    (step_count (cat (char_in ((d, d) ∷ [])) rest)) _ less
    (front_too_much (char_in ((d, d) ∷ [])) rest c.args.self.now.budget c.loop-i.self.budget
    c.loop-i.invariant.2 _ c.in_err-front.ensures.refused))

pub returns-in_err-all-2-clause-refused : goal.returns-in_err-all-2-clause-refused
returns-in_err-all-2-clause-refused c =
    let cs = c.in_ok-characters.characters.items in
    let scalars =
    scalars_read cs c.in-Ok.text.now c.args.bytes.now c.in_ok-characters.ensures
    c.in-Ok.ensures.cases.0 c.in-Ok.ensures.cases.1 in
    let coded =
    coded_read cs c.in-Ok.text.now c.args.bytes.now c.in_ok-characters.ensures
    c.in-Ok.ensures.cases.0 c.in-Ok.ensures.cases.1 in
    let p = err_from_is_err_and c.from_residual-in_err-all-2.result c.from_residual-in_err-all-2.ensures.1 in
    let d = c.index.result.now in
    let rest = literal (encode_utf8_all (drop c.loop-i.i cs)) in
    let front = c.in_ok-front.ensures in
    let was = c.loop-i.invariant in
    let within : c.loop-i.i ≤ length cs = omega (arith, c.loop-i.auto.i, c.len-i.ensures, c.in_ok-characters.characters.ok.0) in
    let less = whole_steps cs c.loop-i.i d scalars c.loop-i-test.true within c.index.ensures in
    rw (p.1, p.2, ← coded)
    (too_much_of (literal (encode_utf8_all cs)) c.args.self.now.budget
    (step_count (cat (char_in ((d, d) ∷ [])) rest)) _ less
    (turn_too_much (char_in ((d, d) ∷ [])) rest c.in_ok-front.front c.loop-i.all
    c.args.self.now.next c.loop-i.self.next c.character.new.self.next front.built was.0
    c.args.self.now.budget c.loop-i.self.budget c.character.new.self.budget was.2 front.spent _
    c.in_err-all-2.ensures.refused))
