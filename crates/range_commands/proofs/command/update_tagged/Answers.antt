use Rattle.std.proofs.Common.{rules, subst}
use Rattle.range_commands.specs.Tagged.{MayAnswerTo}
use Rattle.std.proofs.lemmas.Bool.{false≢true}
use Rattle.range_map.proofs.ClosureAnswers.{every_one, answered_as, rebound_as, fails_as}
use Rattle.range_commands.proofs.command.update_tagged.Goals as goal

pub update-requires-clause-bound : goal.update-requires-clause-bound
update-requires-clause-bound g c =
    every_one _ (g.C.Storage.items c.args.map.now) (λ i shown shows. c.requires.callable)

pub returns-in-Ok : goal.returns-in-Ok
returns-in-Ok g c =
    let done = c.in-Ok.ensures in
    record {
      answered =
          λ nonempty. answered_as g.K.MaybeBounded.order g.V.PartialEq.eq
          (MayAnswerTo g.F.Fn c.args.f.now c.args.tag) (g.C.Storage.items c.args.map.now)
          (g.C.Storage.items c.update.new.self) c.args.range (done.updated nonempty)
          (λ value a m.
          subst (λ v. MayAnswerTo g.F.Fn c.args.f.now c.args.tag v a) m.shows m.says.1);
      rebound =
          rebound_as g.K.MaybeBounded.order g.V.PartialEq.eq
          (MayAnswerTo g.F.Fn c.args.f.now c.args.tag) (g.C.Storage.items c.args.map.now)
          (g.C.Storage.items c.update.new.self) c.args.range done.rebound
          (λ value a m.
          subst (λ v. MayAnswerTo g.F.Fn c.args.f.now c.args.tag v a) m.shows m.says.1);
      canonical = done.canonical;
      empty = done.empty_unchanged;
    }

pub returns : goal.returns
returns g c =
    let refused = c.in-Err-Closure.ensures in (
      fails_as g.K.MaybeBounded.order g.V.PartialEq.eq (MayAnswerTo g.F.Fn c.args.f.now c.args.tag)
          (g.C.Storage.items c.args.map.now) c.args.range c.in-Err-Closure.error
          (refused.closure c.in-Err-Closure.error (search rules))
          (λ value a m.
          subst (λ v. MayAnswerTo g.F.Fn c.args.f.now c.args.tag v a) m.shows m.says.1),
      λ empty. false≢true (refused.empty empty),
      refused.refused,
    )
