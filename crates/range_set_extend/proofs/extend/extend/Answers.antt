use Rattle.std.proofs.Common.{refl, true, ◌∷◌, [], map}
use Rattle.std.proofs.lemmas.List.{map-append}
use Rattle.std.proofs.lemmas.Bool.{false≢true}
use Rattle.range_runs.proofs.Results.{error_has_no_value, on_error}
use Rattle.range_set_extend.proofs.Membership.{added, none_added, one_more}
use Rattle.range_set_extend.proofs.extend.extend.Goals as goal

pub loop-range-init : goal.loop-range-init
loop-range-init g c =
    let ready =
    c.requires.ends c.into_iter-range-iterator.result
    c.into_iter-range-iterator.ensures.into_iter_gives in
    record {
      can = ready.0;
      ends = ready.1;
      added = none_added g.T.MaybeBounded.order (g.C.Storage.items c.args.set.now);
      canonical = c.in_form.ensures;
    }

pub loop-range-preserved : goal.loop-range-preserved
loop-range-preserved g c =
    let order = g.T.MaybeBounded.order in
    let items = g.C.Storage.items in
    let range = g.R.AsRange.range in
    let was = c.loop-range.invariant in
    let next = c.in-Some.range in
    let also =
    added order g.met.T.PartialEnum.lawful (λ _ _. true) (λ _ _. refl) (items c.loop-range.set)
    (items c.insert.new.self) (range next) c.in_ok-insert.ensures.bound in
    let more =
    one_more order (items c.args.set.now) (items c.loop-range.set)
    (items c.insert.new.self) (map range c.loop-range.yielded)
    (range next) was.added also in
    record {
      can = (c.in-Some.ensures.goes.on was.ends).0;
      ends = (c.in-Some.ensures.goes.on was.ends).1;
      added = rw (map-append range c.loop-range.yielded (next ∷ [])) more;
      canonical = c.insert.ensures.canonical;
    }

pub returns : goal.returns
returns g c =
    record {
      added = (
        c.into_iter-range-iterator.result,
        c.loop-range.yielded,
        c.into_iter-range-iterator.ensures.into_iter_gives,
        (
          c.next.new.self,
          (c.loop-range.range-iterator, c.loop-range.yielded_by, c.in-None.ensures.steps),
        ),
        c.loop-range.invariant.added,
      );
      refused = tt;
      canonical = c.loop-range.invariant.canonical;
    }

pub returns-in_err-insert : goal.returns-in_err-insert
returns-in_err-insert g c =
    record {
      added = error_has_no_value _ c.from_residual.result c.from_residual.ensures.0;
      refused =
          on_error _ c.from_residual.result (
            c.into_iter-range-iterator.result,
            c.loop-range.yielded,
            c.in-Some.range,
            c.next.new.self,
            c.into_iter-range-iterator.ensures.into_iter_gives,
            (c.loop-range.range-iterator, c.loop-range.yielded_by, c.in-Some.ensures.steps),
            λ empty. absurd (false≢true (c.in_err-insert.ensures.empty empty)),
            rw c.in_err-insert.ensures.refused c.loop-range.invariant.added,
          );
      canonical = c.insert.ensures.canonical;
    }

pub insert-requires : goal.insert-requires
insert-requires g c = record { keys = c.requires.clones; values = search }
