use Rattle.std.proofs.Common.{◌++◌, ap, sym, ◌∙◌}
use Rattle.std.specs.String.{string_bytes, string_eq}
use Rattle.std.proofs.lemmas.Slice.Eq.{bytes_eq-Decides}
use Rattle.address_rows.proofs.Numbers.{different, found, kept}
use Rattle.address_rows.proofs.texts.Texts.number_of.Goals as goal

pub returns-clause-found : goal.returns-clause-found
returns-clause-found c =
    let stored = c.in_ok-number.ensures.stored in
    let same = (bytes_eq-Decides (string_bytes c.in_ok-text.text) (string_bytes stored.0)).0 stored.2 in
    found string_bytes c.insert_full.new.self.keys c.in_ok-number.number stored.0 c.args.text.now
    stored.1 (sym same ∙ c.in_ok-text.ensures.ok)

pub returns-clause-kept : goal.returns-clause-kept
returns-clause-kept c =
    let more = kept string_bytes string_eq c.self.inside.set.keys c.insert_full.new.self.keys
    c.in_ok-text.text c.in_ok-number.ensures.keys in
    (more.0, more.1 ∙ ap (λ texts. texts ++ more.0) c.self.view_is)

pub returns-clause-different : goal.returns-clause-different
returns-clause-different c =
    different string_bytes string_eq
    (λ a b. (bytes_eq-Decides (string_bytes a) (string_bytes b)).1)
    c.insert_full.new.self.keys c.in_ok-number.ensures.unique
