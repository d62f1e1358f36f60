use Rattle.std.proofs.Common.{[], ◌∷◌, ap, length, arith, ◌∙◌, length-append}
use Rattle.range_nodes.proofs.RowItems.{length-joined, more_rows, more_segments}
use Rattle.range_nodes.proofs.rows.Rows.reserve.Goals as goal

pub returns-in_err-new-clause-no_less : goal.returns-in_err-new-clause-no_less
returns-in_err-new-clause-no_less g c =
    omega (
      arith,
      length-joined c.loop.self-inside.segments.items c.loop.invariant.all,
      length-joined c.self.inside.segments.items c.self.invariant,
      ap length c.self.view_is,
      c.loop.invariant.many,
      ap length c.in_ok-reserve.ensures.items,
    )

pub loop-preserved : goal.loop-preserved
loop-preserved g c =
    let was = c.loop.invariant in
    let items = c.push_reserved.ensures.items in
    record {
      many = omega (
        arith,
        ap length items,
        length-append c.loop.self-inside.segments.items (c.in_ok-new.field-0 ∷ []),
        was.many,
      );
      capacity = c.push_reserved.ensures.capacity ∙ was.capacity;
      all = rw items (more_segments c.loop.self-inside.segments.items was.all _ c.in_ok-new.ensures);
      kept = λ k.
          rw items (more_rows c.loop.self-inside.segments.items was.all _ c.in_ok-new.ensures k)
          ∙ was.kept k;
    }

pub returns-clause-there : goal.returns-clause-there
returns-clause-there g c =
    omega (
      arith,
      length-joined c.loop.self-inside.segments.items c.loop.invariant.all,
      c.loop.invariant.many,
      c.loop-test.false,
      c.saturating_sub-missing.ensures,
      c.div_ceil.ensures,
      c.len.ensures,
      ap length c.in_ok-reserve.ensures.items,
      c.self.inside.segments.ok.0,
    )

pub returns-clause-no_less : goal.returns-clause-no_less
returns-clause-no_less g c =
    omega (
      arith,
      length-joined c.loop.self-inside.segments.items c.loop.invariant.all,
      length-joined c.self.inside.segments.items c.self.invariant,
      ap length c.self.view_is,
      c.loop.invariant.many,
      ap length c.in_ok-reserve.ensures.items,
    )
