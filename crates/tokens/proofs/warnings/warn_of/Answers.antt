use Rattle.std.proofs.Common.{◌≡◌, refl, subst, inl, inr, [], arith}
use Rattle.std.specs.Io.KnownBytes.{Appends}
use Rattle.line_program.proofs.Listing.{appends_none, on_ok_as}
use Rattle.tokens.specs.Warnings.{warning}
use Rattle.tokens.proofs.Warned.{warning_is}
use Rattle.tokens.proofs.warnings.warn_of.Goals as goal

pub returns-then-has_token_of : goal.returns-then-has_token_of
returns-then-has_token_of g c = λ lexer is.
    let same : c.in-Ok.rule ≡ c.args.rule = omega (arith, c.in-Ok.ensures) in
    ([], inl (rw (← same) (c.if-has_token_of.ensures.exact.0 refl), refl), appends_none _)

pub returns : goal.returns
returns g c = λ lexer is.
    let same : c.in-Ok.rule ≡ c.args.rule = omega (arith, c.in-Ok.ensures) in
    on_ok_as c.writeln.result _ _
    (λ appended. (
      warning c.args.path.now c.args.number c.args.name.now,
      inr (
        λ leads. let e = c.if-has_token_of.ensures.exact.1 (rw (← same) at leads) in absurd cc,
        rw (← same) (c.if-has_token_of.ensures.none lexer is refl),
        refl,
      ),
      subst (Appends (g.E.Write.contents c.args.err.now) (g.E.Write.contents c.writeln.new.self))
          (warning_is c.args.path.now c.args.number c.args.name.now) appended,
    ))
    c.writeln.ensures.bytes
