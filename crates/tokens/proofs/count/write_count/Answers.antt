use Rattle.std.proofs.Common.{◌≡◌, refl, sym, inl, inr, [], ◌++◌, codes, decimal, arith}
use Rattle.line_program.proofs.Listing.{appends_none, on_ok_as}
use Rattle.tokens.proofs.Lists.{append_four}
use Rattle.tokens.proofs.count.write_count.Goals as goal

pub returns-then-count-eq0 : goal.returns-then-count-eq0
returns-then-count-eq0 g c = ([], inl (c.if-count-eq0.true, refl), appends_none _)

pub returns-in-Some : goal.returns-in-Some
returns-in-Some g c =
    let name = c.in-Some.name.now in
    let same : c.in-Ok.rule ≡ c.args.rule = omega (arith, c.in-Ok.ensures) in
    on_ok_as c.writeln.result _ _
    (λ appended. (
      name ++ (codes " " ++ (decimal c.args.count ++ codes "\n")),
      inr (
        c.if-count-eq0.false,
        name,
        rw same at c.in-Some.ensures,
        sym (append_four name (codes " ") (decimal c.args.count) (codes "\n")),
      ),
      appended,
    )) c.writeln.ensures.bytes
