use Rattle.std.proofs.Common.{refl, inl, inr, codes}
use Rattle.std.proofs.lemmas.Str.Pattern.{split_text_parts}
use Rattle.tokens.proofs.tails.parts_of.Goals as goal

pub returns-in_default : goal.returns-in_default
returns-in_default c =
    let parts =
    split_text_parts (codes " -> ") c.args.rest.now c.split_once.result c.split_once.ensures.cases in
    inl ((refl, rw c.in_default.is at parts), refl)

pub returns-in-Some-change_of : goal.returns-in-Some-change_of
returns-in-Some-change_of c =
    let parts =
    split_text_parts (codes " -> ") c.args.rest.now c.split_once.result c.split_once.ensures.cases in
    inr (
      c.in-Some.words.now,
      rw c.in-Some.is at parts,
      rw c.trim-words.ensures.trim at c.in-Some-change_of.ensures,
    )

pub returns-in-None : goal.returns-in-None
returns-in-None c =
    let parts =
    split_text_parts (codes " -> ") c.args.rest.now c.split_once.result c.split_once.ensures.cases in (
      c.in-Some.text.now,
      c.in-Some.words.now,
      rw c.in-Some.is at parts,
      rw c.trim-words.ensures.trim at c.in-None.ensures,
    )
