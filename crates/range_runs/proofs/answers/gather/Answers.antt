use Rattle.range_runs.proofs.Common.{common_steps, arith, sym, ◌∙◌, Ok, Err, Equal-is, IsLawful, bound_clone}
use Rattle.range_runs.proofs.PieceAnswers.{started, next_is_askable, next_answered, one_more, one_more_keeps_spelling, all_gathered}
use Rattle.range_runs.proofs.answers.gather.Goals as goal

pub loop-part-init : goal.loop-part-init
loop-part-init g c = rw (c.new-middle.ensures.items, c.pieces_within-pieces.ensures) (record {
  spelled = tt;
  underway = λ lawful equal. started lawful equal c.requires.window;
})

pub ask-requires : goal.ask-requires
ask-requires g c =
    let was = c.loop-part.invariant.underway g.met.K.PartialEnum.lawful g.met.V.Eq.laws in
    next_is_askable _ _ c.requires.window (rw c.in-Some.ensures.steps at was) c.requires.free
    c.requires.bound

pub returns-in_err-ask-clause-closure : goal.returns-in_err-ask-clause-closure
returns-in_err-ask-clause-closure g c = λ e failed.
    let was = c.loop-part.invariant.underway g.met.K.PartialEnum.lawful g.met.V.Eq.laws in
    next_answered _ _ c.requires.window (rw c.in-Some.ensures.steps at was) (Err e)
    (c.ask.ensures.closure e (grind (arith, common_steps)))

pub returns-in_err-ask-clause-memory : goal.returns-in_err-ask-clause-memory
returns-in_err-ask-clause-memory g c = λ failed.
    let was = c.loop-part.invariant.underway g.met.K.PartialEnum.lawful g.met.V.Eq.laws in
    let said = c.ask.ensures.memory (grind (arith, common_steps)) in (
      said.0,
      next_answered _ _ c.requires.window (rw c.in-Some.ensures.steps at was) (Ok said.0) said.1,
    )

pub loop-part-preserved : goal.loop-part-preserved
loop-part-preserved g c =
    let order = g.K.MaybeBounded.order in
    let tied = λ (a : g.row.K.Denot) (b : g.row.K.Denot) (h : g.K.Clone.is_clone a b). sym
    (g.met.K.MaybeBounded.order_is_cmp a b) ∙ (Equal-is (g.K.Ord.cmp a b)).0
    (sym (g.met.K.Ord.matches_eq a b) ∙ c.requires.keys a b h) in
    let done = c.in_ok-ask.ensures.ok in
    let clones = λ (lawful : IsLawful order). bound_clone order lawful g.K.Clone.is_clone tied in
    record {
      spelled =
          let lawful = g.met.K.PartialEnum.lawful in
          let was = c.loop-part.invariant.underway lawful g.met.V.Eq.laws in
          one_more_keeps_spelling lawful _ c.requires.window (rw c.in-Some.ensures.steps at was)
          g.K.Clone.is_clone (clones lawful) c.ask.new.items.items done.0 done.2 c.loop-part.invariant.spelled;
      underway = λ lawful equal.
          let was = rw c.in-Some.ensures.steps at (c.loop-part.invariant.underway lawful equal) in
          one_more lawful equal c.requires.window was g.K.Clone.is_clone (clones lawful)
          c.ask.new.items.items done.0 done.2 done.1;
    }

pub returns-clause-ok : goal.returns-clause-ok
returns-clause-ok g c =
    let was = c.loop-part.invariant.underway g.met.K.PartialEnum.lawful g.met.V.Eq.laws in
    all_gathered _ _ c.requires.window (rw c.in_default.ensures.steps.0 at was)
