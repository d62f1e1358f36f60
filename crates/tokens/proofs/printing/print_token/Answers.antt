use Rattle.std.proofs.Common.{refl, sym, subst, inl, inr, []}
use Rattle.line_program.proofs.Listing.{appends_none, on_ok_as}
use Rattle.lexing.specs.Lexers.{IsSkipped}
use Rattle.tokens.specs.Lines.{token_line}
use Rattle.tokens.proofs.printing.print_token.Goals as goal

pub returns-then-is_skipped : goal.returns-then-is_skipped
returns-then-is_skipped g c =
    ([], inl (rw c.requires (c.if-is_skipped.ensures.0 refl), refl), appends_none _)

pub returns-in-Some : goal.returns-in-Some
returns-in-Some g c =
    on_ok_as c.write_token.result _ _
    (λ appended. (
      _,
      inr (
        λ h. let e = c.if-is_skipped.ensures.1 (rw c.requires at h) in absurd cc,
        c.in-Some.name.now,
        c.in-Some.ensures,
        refl,
      ),
      appended,
    )) c.write_token.ensures
