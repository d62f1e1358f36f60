use Rattle.std.proofs.lemmas.Result.{IfOk-weaker}
use Rattle.range_map.proofs.Common.{arith, map, subst, sym, BindAlike, error_has_no_value, false≢true, item_of}
use Rattle.range_map.proofs.map.from_sorted.build.Goals as goal

pub returns-in_err-list_of : goal.returns-in_err-list_of
returns-in_err-list_of g c =
    let left = c.from_residual in
    record {
      bound = error_has_no_value _ left.result left.ensures.0;
      canonical = error_has_no_value _ left.result left.ensures.0;
      none_needed = λ none. absurd (false≢true (c.in_err-list_of.ensures.none_needed none));
    }

pub returns : goal.returns
returns g c =
    let order = g.K.MaybeBounded.order in
    let same = g.V.PartialEq.eq in
    let pairs = map (item_of g.R.AsRange.range) c.args.pairs.items in
    let made = c.in_ok-list_of.ensures in
    record {
      bound = IfOk-weaker c.map_of.result _ (λ new. BindAlike order same _ pairs)
          (λ new is. subst (λ items. BindAlike order same items pairs) (sym is) made.bound)
          c.map_of.ensures.items;
      canonical = c.map_of.ensures.canonical;
      none_needed = λ none. c.map_of.ensures.none_needed (omega (arith, none, made.few));
    }
