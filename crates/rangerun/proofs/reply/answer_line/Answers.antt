use Rattle.std.proofs.Common.{inr}
use Rattle.std.proofs.lemmas.Result.{on_ok_weaker}
use Rattle.rangerun.proofs.KnownLines.{reads_fields, reads_word}
use Rattle.rangerun.proofs.LineWords.{loads_no_text, word_loads_no_text}
use Rattle.rangerun.proofs.reply.answer_line.Goals as goal

pub returns-in-None : goal.returns-in-None
returns-in-None g c =
    let line = c.args.line.now in
    let read = reads_word g.K.MaybeBounded.order g.K.NumberKey.as_number g.K.Json.shape
    g.K.Json.reads g.K.Json.is_read line c.alone.result c.in-None.ensures c.alone.ensures.found
    c.alone.ensures.none in
    on_ok_weaker c.answer_known-in-None.result (λ (text, answer, more).
    (text, inr (word_loads_no_text line c.in-None.ensures, c.alone.result, read, answer), more))
    c.answer_known-in-None.ensures

pub returns-in_default : goal.returns-in_default
returns-in_default g c =
    let line = c.args.line.now in
    let word = c.in-Some.word.now in
    let fields = c.in-Some.fields.now in
    let none = loads_no_text line word fields c.in-Some.ensures c.in_default.not-load in
    let read = reads_fields g.K.MaybeBounded.order g.K.NumberKey.as_number g.K.Json.shape
    g.K.Json.reads g.K.Json.is_read line word fields c.with_fields.result c.in-Some.ensures
    c.with_fields.ensures.found c.with_fields.ensures.none in
    on_ok_weaker c.answer_known.result
    (λ (text, answer, more). (text, inr (none, c.with_fields.result, read, answer), more))
    c.answer_known.ensures
