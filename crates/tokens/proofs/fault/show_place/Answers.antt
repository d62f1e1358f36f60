use Rattle.std.proofs.Common.{◌≡◌, sym, subst, ◌∙◌, true}
use Rattle.std.specs.Prelude.{OnOk}
use Rattle.std.specs.Io.KnownBytes.{Appends}
use Rattle.tokens.specs.Texts.{begins_with_mark}
use Rattle.tokens.proofs.FaultLines.{marked_place}
use Rattle.tokens.proofs.fault.show_place.Goals as goal

pub returns-then-begins_with_mark : goal.returns-then-begins_with_mark
returns-then-begins_with_mark g c =
    let is : begins_with_mark c.args.rest.now ≡ true =
    sym c.begins_with_mark.ensures ∙ c.if-begins_with_mark.true in
    subst
    (λ text. OnOk c.writeln.result
    (Appends (g.E.Write.contents c.args.err.now) (g.E.Write.contents c.writeln.new.self) text))
    (marked_place c.args.path.now c.args.rest.now c.args.place is) c.writeln.ensures.bytes
