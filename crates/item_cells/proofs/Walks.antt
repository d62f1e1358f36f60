-- How a walk begins: its function is found in the table, and the types say of which form the values passed are. Assumes `Logic`.
use seplogic.Ra.Ura.{Ura}
use mir.Syntax.{Callee, Fn}
use prog.Wp.{WpFn, Closed}
use prog.Model.{Model}
use types.Logic.{Logic}
use contract.Running.{Running, tables, tables_of}
use sound.WpLaws.{WpFn-mono}
use base.Logic.{ent}
use denote.Laws.{Are, Ises}
use denote.Signature.{types_at}
use denote.Triple.Clauses.{Clauses, Ended, closing}
use denote.Triple.Spec.{Meets, triple_of}
use denote.Triple.Table.{entered}
use denote.Triple.Walked.{Stays, AllGo, walk_of, walk_Meets}
use Rattle.core.proofs.slots.Bodies.{knowing}

module _ {M : Type 1} {𝓤 : Ura M} (𝓛 : Logic 𝓤) (𝓜 : Model 𝓤 𝓛.H) (𝓡 : Running 𝓤 𝓛.H 𝓜) (T : Ended) (stays : Stays T.signature.params T.kept) (c : Clauses 𝓤 T) (f : Fn) where
  open 𝓛 use {H}

  abbrev Ghost : Type 0
  Ghost = (walk_of 𝓛 T stays c).Ghost

  -- from what the caller had, the body runs to what it promised
  abbrev pub Runs : Ghost → Type 1
  Runs y = ent 𝓤 ((walk_of 𝓛 T stays c).pre y) (WpFn 𝓤 H (tables 𝓤 H 𝓜 𝓡 𝓡.env).C (tables 𝓤 H 𝓜 𝓡 𝓡.env).Λ f ((walk_of 𝓛 T stays c).args y) ((walk_of 𝓛 T stays c).post y))

  pub met : (k : Callee) → Closed 𝓤 H (tables 𝓤 H 𝓜 𝓡 𝓡.env).C (tables 𝓤 H 𝓜 𝓡 𝓡.env).Λ k f → AllGo 𝓛 T.signature.lifetimes T.signature.params T.kept stays
      → ((y : Ghost) → Are (types_at T.signature.params y.0.0) (Ises (types_at T.signature.params y.0.0)) y.0.3 y.0.4 → Runs y)
      → Meets 𝓛 T.signature ((tables 𝓤 H 𝓜 𝓡 𝓡.env).C k) (closing 𝓛 T c)
  unfolding tables_of
  met k closed go walk =
      let 𝓣 = tables_of 𝓤 H 𝓜 (tables 𝓤 H 𝓜 𝓡 𝓡.env) in
      entered 𝓤 H (triple_of 𝓛 T.signature (closing 𝓛 T c)) 𝓣.C 𝓣.Λ k f closed
      (walk_Meets 𝓛 T stays go c (WpFn 𝓤 H 𝓣.C 𝓣.Λ f) (WpFn-mono 𝓤 H 𝓛.laws 𝓣 f) (λ y. knowing 𝓛 T stays c (WpFn 𝓤 H 𝓣.C 𝓣.Λ f) y (walk y)))
