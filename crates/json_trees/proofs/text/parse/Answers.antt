use Rattle.std.proofs.Common.{◌≡◌, true, false, sym, rules}
use Rattle.json.specs.Lex.{tokens}
use Rattle.json.specs.Json.{value}
use Rattle.json.specs.Reads.{token_of}
use Rattle.json.specs.Value.{value_view}
use Rattle.json_trees.specs.Borrowed.{is_readable}
use Rattle.json_trees.proofs.Texts.{text_read, text_goes_on, text_unreadable, one_follows, none_follows}
use Rattle.json_trees.proofs.text.parse.Goals as goal

pub returns-then-is_some-clause-refused : goal.returns-then-is_some-clause-refused
returns-then-is_some-clause-refused c h =
    let more =
    one_follows c.next.result token_of c.read.new.reader c.next.new.self c.next.ensures.value
    (sym c.if-is_some.ensures) in
    text_goes_on (value 127 (tokens c.args.text.now)) (value_view c.in_ok-value.value) more.0
    c.next.new.self (rw (c.in_ok-reader.ensures.ok, more.1) at c.in_ok-value.ensures.ok)

pub returns-then-not-has_values-clause-refused : goal.returns-then-not-has_values-clause-refused
returns-then-not-has_values-clause-refused c h =
    let none =
    none_follows c.next.result token_of c.read.new.reader c.next.new.self c.next.ensures.value
    (sym c.if-is_some.ensures) in
    let unreadable : is_readable (value_view c.in_ok-value.value) ≡ false = search rules in
    text_unreadable (value 127 (tokens c.args.text.now)) (value_view c.in_ok-value.value)
    (rw (c.in_ok-reader.ensures.ok, none) at c.in_ok-value.ensures.ok) unreadable

pub returns-clause-read : goal.returns-clause-read
returns-clause-read c =
    let none =
    none_follows c.next.result token_of c.read.new.reader c.next.new.self c.next.ensures.value
    (sym c.if-is_some.ensures) in
    let readable : is_readable (value_view c.in_ok-value.value) ≡ true = search rules in
    text_read (value 127 (tokens c.args.text.now)) (value_view c.in_ok-value.value)
    (rw (c.in_ok-reader.ensures.ok, none) at c.in_ok-value.ensures.ok) readable
