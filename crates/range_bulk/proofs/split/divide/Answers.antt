use Rattle.range_bulk.proofs.Common.{false≢true, every_left, error_has_no_value, on_error}
use Rattle.range_bulk.proofs.SplitLists.{unmet_is_below}
use Rattle.range_bulk.proofs.split.divide.Goals as goal

pub returns-in_err-move_back : goal.returns-in_err-move_back
returns-in_err-move_back g c =
    let left = c.from_residual in
    record {
      divided = error_has_no_value _ left.result left.ensures.0;
      list = on_error _ left.result c.move_back.ensures.list;
      room = on_error _ left.result c.move_back.ensures.room;
      succeeds = λ none.
          let below =
          unmet_is_below g.met.K.PartialEnum.lawful g.met.V.Eq.laws c.args.key c.known.ensures _
          c.requires.stored none in
          absurd (false≢true (c.in_err-move_back.ensures.succeeds below.1));
    }

pub returns-clause-succeeds : goal.returns-clause-succeeds
returns-clause-succeeds g c = λ none.
    let items = g.C.Storage.items in
    let below =
    unmet_is_below g.met.K.PartialEnum.lawful g.met.V.Eq.laws c.args.key c.known.ensures _
    c.requires.stored none in
    c.cut_last.ensures.succeeds (every_left _ (items c.move_back.new.stored)
    (items c.move_back.new.others) (rw (← c.move_back.ensures.list) at below.0))
