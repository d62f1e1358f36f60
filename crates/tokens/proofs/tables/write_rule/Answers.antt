use Rattle.std.proofs.Common.{◌≡◌, refl, true, false, arith}
use Rattle.line_program.proofs.Listing.{appends_then, on_ok_as}
use Rattle.tokens.proofs.tables.write_rule.Goals as goal

pub returns-then-is_skipped : goal.returns-then-is_skipped
returns-then-is_skipped g c =
    let same : c.in-Ok.rule ≡ c.args.rule = omega (arith, c.in-Ok.ensures) in
    let front = rw c.as_bytes.ensures.value at c.in_ok-write_all.ensures.bytes in
    on_ok_as c.write_all-then-is_skipped.result _ _
    (λ last. (
      _,
      (
        c.in-Some.name.now,
        true,
        rw same at c.in-Some.ensures,
        (λ t. rw (← same) (c.if-is_skipped.ensures.0 refl), λ skipped. refl),
        refl,
      ),
      appends_then _ _ _ _ _ (appends_then _ _ _ _ _ front c.in_ok-write_name.ensures) last,
    ))
    (rw c.as_bytes-then-is_skipped.ensures.value at c.write_all-then-is_skipped.ensures.bytes)

pub returns-else-is_skipped : goal.returns-else-is_skipped
returns-else-is_skipped g c =
    let same : c.in-Ok.rule ≡ c.args.rule = omega (arith, c.in-Ok.ensures) in
    let front = rw c.as_bytes.ensures.value at c.in_ok-write_all.ensures.bytes in
    on_ok_as c.write_all-else-is_skipped.result _ _
    (λ last. (
      _,
      (
        c.in-Some.name.now,
        false,
        rw same at c.in-Some.ensures,
        (
          λ t. absurd cc,
          λ skipped. let e = c.if-is_skipped.ensures.1 (rw (← same) at skipped) in absurd cc,
        ),
        refl,
      ),
      appends_then _ _ _ _ _ (appends_then _ _ _ _ _ front c.in_ok-write_name.ensures) last,
    ))
    (rw c.as_bytes-else-is_skipped.ensures.value at c.write_all-else-is_skipped.ensures.bytes)
