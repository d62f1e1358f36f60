use Rattle.range_map.proofs.Common.{◌≡◌, arith, inl, any_none, refl}
use Rattle.range_runs.proofs.RangePieces.{any_over}
use Rattle.range_edit.proofs.RangeSides.{none_meets}
use Rattle.range_edit.proofs.InsertionFrames.{meets_some}
use Rattle.range_map.proofs.map.try_insert.bind_where_free.Goals as goal

pub returns-in-Ok-clause-occupied : goal.returns-in-Ok-clause-occupied
returns-in-Ok-clause-occupied g c = (
  λ e. absurd e,
  λ met. absurd (c.put_apart.ensures.unconnected (any_over _ _ _ (λ i h. inl h) met)),
)

pub returns-in-Err-clause-occupied : goal.returns-in-Err-clause-occupied
returns-in-Err-clause-occupied g c = (
  λ e. absurd e,
  λ met. absurd (c.put_apart.ensures.unconnected (any_over _ _ _ (λ i h. inl h) met)),
)

pub returns-then-window-gt0 : goal.returns-then-window-gt0
returns-then-window-gt0 g c =
    let some =
    meets_some g.met.K.PartialEnum.lawful g.met.V.Eq.laws c.find_window-window.ensures.window
    (omega (arith, c.if-window-gt0.true)) in
    record {
      occupied = (λ _. some, λ _. tt);
      given = refl;
      ok = tt;
      refused = refl;
      succeeds = λ enough unmet. absurd (unmet some);
    }

pub returns-in-Ok-bind_free-clause-occupied : goal.returns-in-Ok-bind_free-clause-occupied
returns-in-Ok-bind_free-clause-occupied g c =
    let none : c.find_window-window.result.count ≡ 0 = omega (arith, c.if-window-gt0.false) in
    let unmet =
    none_meets g.met.K.PartialEnum.lawful g.met.V.Eq.laws
    c.find_window-window.ensures.window none in
    (λ e. absurd e, λ met. absurd (any_none _ _ _ unmet (λ i no at. no at) met))

pub returns-in-Err-bind_free-clause-occupied : goal.returns-in-Err-bind_free-clause-occupied
returns-in-Err-bind_free-clause-occupied g c =
    let none : c.find_window-window.result.count ≡ 0 = omega (arith, c.if-window-gt0.false) in
    let unmet =
    none_meets g.met.K.PartialEnum.lawful g.met.V.Eq.laws
    c.find_window-window.ensures.window none in (
      λ e. absurd e,
      λ met. absurd (any_none _ _ _ unmet (λ i no at. no at) met),
    )
