use Rattle.range_edit.proofs.Common.{arith}
use Rattle.range_edit.proofs.RangeSides.{unmet_is_unbound}
use Rattle.range_edit.proofs.InsertionFrames.{some_meets}
use Rattle.range_edit.proofs.unbind.unbind.Goals as goal

pub returns-then-window-eq0-clause-ok : goal.returns-then-window-eq0-clause-ok
returns-then-window-eq0-clause-ok g c = unmet_is_unbound g.met.K.PartialEnum.lawful g.met.V.Eq.laws
    c.find_window-window.ensures.window c.if-window-eq0.true

pub returns-clause-unmet : goal.returns-clause-unmet
returns-clause-unmet g c = λ none. absurd (some_meets g.met.K.PartialEnum.lawful g.met.V.Eq.laws
    c.find_window-window.ensures.window (omega (arith, c.if-window-eq0.false)) none)

pub returns-clause-unmet_unchanged : goal.returns-clause-unmet_unchanged
returns-clause-unmet_unchanged g c = λ none. absurd (some_meets g.met.K.PartialEnum.lawful
    g.met.V.Eq.laws c.find_window-window.ensures.window (omega (arith, c.if-window-eq0.false)) none)
