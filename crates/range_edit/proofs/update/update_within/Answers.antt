use Rattle.range_edit.proofs.Common.{rules, Some, None, Ok, Err, MayAnswer}
use Rattle.range_edit.proofs.UpdatedLists.{by_insertion, by_removal}
use Rattle.range_edit.proofs.Surrounded.{alone, only_answered, only_piece}
use Rattle.range_edit.proofs.SpelledChanges.{inserted_keeps_spelling, removed_keeps_spelling}
use Rattle.range_edit.proofs.update.update_within.Goals as goal

pub returns-in_ok-bind_inside-in-Ok-Some-clause-ok :
    goal.returns-in_ok-bind_inside-in-Ok-Some-clause-ok
returns-in_ok-bind_inside-in-Ok-Some-clause-ok g c =
    let lawful = g.met.K.PartialEnum.lawful in
    let equal = g.met.V.Eq.laws in
    let x = c.get.result.now in
    let v = c.in-Ok-Some.value in
    let says : MayAnswer g.F.Fn c.args.f.now (Some x.value) (Ok (Some v)) = search rules in
    by_insertion g.K.MaybeBounded.order g.V.PartialEq.eq equal g.F.Fn c.args.f.now _ _ _ x.value v
    (alone lawful equal c.requires.within x c.get.ensures)
    (only_piece lawful equal c.requires.within x c.get.ensures) says
    c.in_ok-bind_inside-in-Ok-Some.ensures.ok

pub returns-in_ok-bind_inside-in-Ok-Some-clause-spelled :
    goal.returns-in_ok-bind_inside-in-Ok-Some-clause-spelled
returns-in_ok-bind_inside-in-Ok-Some-clause-spelled g c = inserted_keeps_spelling
    g.met.K.PartialEnum.lawful g.met.V.Eq.laws c.requires.within.window.stored c.requires.within
    c.get.result.now c.get.ensures c.in_ok-bind_inside-in-Ok-Some.ensures.ok

pub returns-in_ok-unbind_inside-in-Ok-None-clause-ok :
    goal.returns-in_ok-unbind_inside-in-Ok-None-clause-ok
returns-in_ok-unbind_inside-in-Ok-None-clause-ok g c =
    let equal = g.met.V.Eq.laws in
    let x = c.get.result.now in
    let says : MayAnswer g.F.Fn c.args.f.now (Some x.value) (Ok None) = search rules in
    by_removal g.K.MaybeBounded.order g.V.PartialEq.eq equal g.F.Fn c.args.f.now _ _ _ x.value
    (only_piece g.met.K.PartialEnum.lawful equal c.requires.within x c.get.ensures) says
    c.in_ok-unbind_inside-in-Ok-None.ensures.ok

pub returns-in_ok-unbind_inside-in-Ok-None-clause-spelled :
    goal.returns-in_ok-unbind_inside-in-Ok-None-clause-spelled
returns-in_ok-unbind_inside-in-Ok-None-clause-spelled g c = removed_keeps_spelling
    g.met.K.PartialEnum.lawful g.met.V.Eq.laws c.requires.within.window.stored c.requires.within
    c.get.result.now c.get.ensures c.in_ok-unbind_inside-in-Ok-None.ensures.ok

pub returns-in-Err-clause-closure : goal.returns-in-Err-clause-closure
returns-in-Err-clause-closure g c = λ e failed.
    let x = c.get.result.now in
    let says : MayAnswer g.F.Fn c.args.f.now (Some x.value) (Err e) = search rules in
    only_answered g.met.K.PartialEnum.lawful g.met.V.Eq.laws c.requires.within x c.get.ensures says

pub returns-in_err-bind_inside-in-Ok-Some-clause-memory :
    goal.returns-in_err-bind_inside-in-Ok-Some-clause-memory
returns-in_err-bind_inside-in-Ok-Some-clause-memory g c = λ failed.
    let x = c.get.result.now in
    let says : MayAnswer g.F.Fn c.args.f.now (Some x.value) (Ok (Some c.in-Ok-Some.value)) = search rules in (
      Some c.in-Ok-Some.value,
      only_answered g.met.K.PartialEnum.lawful g.met.V.Eq.laws c.requires.within x c.get.ensures
          says,
    )

pub returns-in_err-unbind_inside-in-Ok-None-clause-memory :
    goal.returns-in_err-unbind_inside-in-Ok-None-clause-memory
returns-in_err-unbind_inside-in-Ok-None-clause-memory g c = λ failed.
    let x = c.get.result.now in
    let says : MayAnswer g.F.Fn c.args.f.now (Some x.value) (Ok None) = search rules in (
      None,
      only_answered g.met.K.PartialEnum.lawful g.met.V.Eq.laws c.requires.within x c.get.ensures
          says,
    )
