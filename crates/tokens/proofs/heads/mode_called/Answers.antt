use Rattle.std.proofs.Common.{◌∙◌, ap, inl, inr, Some, arith}
use Rattle.std.proofs.lemmas.Bool.{cases_eq}
use Rattle.std.proofs.lemmas.Bool.Decides.{Decides-eqb}
use Rattle.std.proofs.lemmas.List.{length-map}
use Rattle.std.proofs.lemmas.Option.{slice_get-get_or, slice_get_within}
use Rattle.std.proofs.lemmas.Slice.Eq.{slice_eq-Decides}
use Rattle.tokens.specs.Heads.{texts_of}
use Rattle.tokens.proofs.Lists.{map_at}
use Rattle.tokens.proofs.ModeNames.{not_here}
use Rattle.tokens.proofs.heads.mode_called.Goals as goal

pub returns-then-eq : goal.returns-then-eq
returns-then-eq c =
    let names = c.args.names.now in
    let same = (slice_eq-Decides Decides-eqb _ _ c.eq.result c.eq.ensures).0 c.if-eq.true in
    map_at (λ text. text.now) names c.loop-at.at _
    (slice_get-get_or names c.loop-at.at _ (omega arith)) ∙ ap Some same

pub loop-at-preserved : goal.loop-at-preserved
loop-at-preserved c = λ i below is. elim (cases_eq i c.loop-at.at) [
  | inl here ↦
      not_here c.args.names.now c.loop-at.at _ c.args.name.now
      (slice_get-get_or c.args.names.now c.loop-at.at _ (omega arith))
      (λ same. let hit = (slice_eq-Decides Decides-eqb _ _ c.eq.result c.eq.ensures).1 same in absurd cc)
      (rw here at is)
  | inr apart ↦ c.loop-at.invariant i (omega (arith, below, apart)) is
]

pub returns : goal.returns
returns c = λ number is.
    let names = c.args.names.now in
    let within = slice_get_within (texts_of names) number c.args.name.now is in
    let count = length-map names (λ text. text.now) in
    c.loop-at.invariant number (omega (arith, within, count)) is
