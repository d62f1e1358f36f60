use Rattle.std.proofs.Common.{ap, refl, ◌∙◌}
use Rattle.std.proofs.lemmas.Str.Ascii.{trim_ascii_is}
use Rattle.address_text.specs.Lines.{from_word, trimmed}
use Rattle.address_text.proofs.line.content_of.Goals as goal

pub returns : goal.returns
returns c =
    let text = c.before_comment.result.now in
    trim_ascii_is text c.trim_ascii.result.now (from_word text) refl c.trim_ascii.ensures.value
    ∙ ap trimmed c.before_comment.ensures
