use Rattle.std.proofs.Common.{◌≡◌, refl, ◌+◌, ◌∷◌, [], length, length-append, map, arith}
use Rattle.std.specs.Str.{trim}
use Rattle.std.proofs.lemmas.List.{length-map}
use Rattle.std.proofs.lemmas.Option.{slice_get_read, slice_get_within}
use Rattle.tokens.specs.Heads.{texts_of}
use Rattle.tokens.specs.Rules.{IsRule}
use Rattle.tokens.proofs.Lists.{map_at, zip_beside}
use Rattle.tokens.proofs.ModeNames.{line_at}
use Rattle.tokens.proofs.RuleLines.{numbered_more, numbered_none, read_all, read_none, read_nothing, read_rule}
use Rattle.tokens.proofs.lines.rules_in.Goals.{in-Nothing, in-Rule+in_ok-push_copy-in-Rule+in_ok-push_copy-in-Rule-2}
use Rattle.tokens.proofs.lines.rules_in.Goals as goal

pub loop-at-init : goal.loop-at-init
loop-at-init c =
    grind (arith, read_none, numbered_none)

pub line_of-requires-clause-modes : goal.line_of-requires-clause-modes
line_of-requires-clause-modes c =
    let all = texts_of c.args.lines.now in
    let modes = c.args.heads.now.modes.items in
    let rows = map (λ row. row.items) modes in
    let at = c.loop-at.at in
    let row = c.index.result.now in
    let (line, there, trimmed) =
    line_at c.args.lines.now at _ c.trim.result.now (omega arith) c.trim.ensures.trim in
    let (numbers, beside, has) = zip_beside _ all rows at line c.requires.heads there in
    let within = slice_get_within rows at numbers beside in
    let count = length-map modes (λ row. row.items) in
    let stands =
    map_at (λ row. row.items) modes at row
    (slice_get_read modes (length modes) at row refl (omega (arith, within, count)) c.index.ensures) in
    let same : numbers ≡ row.items = cc in
    rw (c.deref.ensures.value, trimmed, c.deref-in-loop-at.ensures.value) (rw same at has)

pub loop-at-preserved : goal.loop-at-preserved
loop-at-preserved c =
    let all = texts_of c.args.lines.now in
    let names = texts_of c.args.heads.now.names.items in
    let at = c.loop-at.at in
    let rules = c.loop-at.rules.items in
    let was = c.loop-at.invariant in
    let (line, there, trimmed) =
    line_at c.args.lines.now at _ c.trim.result.now (omega arith) c.trim.ensures.trim in
    elim c.match-line_of.branch [
      | in-Nothing w ↦
          let nothing = rw trimmed at w.in-Nothing.ensures in
          record {
            read = rw w.rules-is (read_nothing names all at line rules there nothing was.read);
            count = rw (w.numbers-is, w.rules-is) was.count;
            numbers = rw (w.numbers-is, w.rules-is) was.numbers;
          }
      | in-Rule+in_ok-push_copy-in-Rule+in_ok-push_copy-in-Rule-2 w ↦
          let rule = w.in-Rule.rule in
          let numbers = c.loop-at.numbers.items in
          let is : IsRule names (trim line) rule = rw (c.deref.ensures.value, trimmed) at w.in-Rule.ensures in
          let pushed = w.in_ok-push_copy-in-Rule.ensures.pushed in
          let numbered = w.in_ok-push_copy-in-Rule-2.ensures.pushed in
          record {
            read = rw w.rules-is (read_rule names all at line rules _ rule there is pushed was.read);
            count = rw (w.numbers-is, w.rules-is, pushed, numbered)
                (omega (
                  arith,
                  length-append numbers ((at + 1) ∷ []),
                  length-append rules (rule ∷ []),
                  was.count,
                ));
            numbers = rw (w.numbers-is, w.rules-is, pushed, numbered)
                (numbered_more names all numbers rules (at + 1) rule was.count was.numbers
                (at, line, refl, there, was.read, is));
          }
    ]

pub returns-in-Bad-clause-rules : goal.returns-in-Bad-clause-rules
returns-in-Bad-clause-rules c =
    let at = c.loop-at.at in
    let (line, there, trimmed) =
    line_at c.args.lines.now at _ c.trim.result.now (omega arith) c.trim.ensures.trim in (
      at,
      line,
      refl,
      there,
      c.loop-at.invariant.read,
      rw (c.deref.ensures.value, trimmed) at c.in-Bad.ensures,
    )

pub returns-in-Bad-clause-numbers : goal.returns-in-Bad-clause-numbers
returns-in-Bad-clause-numbers c = c.loop-at.invariant.numbers

pub returns-clause-rules : goal.returns-clause-rules
returns-clause-rules c =
    let all = texts_of c.args.lines.now in
    let count = length-map c.args.lines.now (λ text. text.now) in
    let ended : c.loop-at.at ≡ length all = omega (arith, count) in
    read_all (texts_of c.args.heads.now.names.items) all c.loop-at.at c.loop-at.rules.items ended
    c.loop-at.invariant.read

pub returns-clause-numbers : goal.returns-clause-numbers
returns-clause-numbers c = c.loop-at.invariant.numbers
