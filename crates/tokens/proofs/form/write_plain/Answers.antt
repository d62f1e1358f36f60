use Rattle.std.proofs.Common.{◌≡◌, subst, ℕ, List, [], ◌∷◌, ◌++◌, append_assoc}
use Rattle.std.specs.Prelude.{decimal, codes}
use Rattle.std.specs.Io.KnownBytes.{Appends}
use Rattle.line_program.proofs.Listing.{appends_then, on_ok_as}
use Rattle.tokens.specs.Escaping.{escaped}
use Rattle.tokens.proofs.form.write_plain.Goals as goal

regrouped : (line column name text : List ℕ)
    → ((line ++ (58 ∷ (column ++ (32 ∷ (name ++ (32 ∷ [])))))) ++ text) ++ (10 ∷ [])
    ≡ line ++ codes ":" ++ column ++ codes " " ++ name ++ codes " " ++ text ++ codes "\n"
regrouped line column name text = simp append_assoc

pub returns : goal.returns
returns g c =
    let front =
    appends_then _ _ _ _ _ c.in_ok-write.ensures.bytes c.in_ok-write_escaped.ensures in
    on_ok_as c.write_all.result _ _
    (λ last. subst
    (λ text. Appends (g.W.Write.contents c.args.out.now) (g.W.Write.contents c.write_all.new.self) text)
    (regrouped (decimal c.args.place.line) (decimal c.args.place.column) c.args.name.now
    (escaped c.args.piece.now))
    (appends_then _ _ _ _ _ front last))
    c.write_all.ensures.bytes
