use Rattle.range_map.proofs.Common.{any_over}
use Rattle.range_map.proofs.FreePieces.{all_pieces, all_free}
use Rattle.range_map.proofs.map.RangeMap.pieces.Goals as goal

pub returns : goal.returns
returns g c =
    let lawful = g.met.K.PartialEnum.lawful in
    let items = g.C.Storage.items c.args.self.now in
    let r = g.R.AsRange.range c.args.range.now in
    let met = c.met_by-items.result in
    rw c.new-2.ensures (simp (
      c.new.ensures.start,
      c.new.ensures.end,
      c.start.ensures,
      c.end.ensures,
    ) (record {
      pieces =
          all_pieces lawful g.met.V.Eq.laws items r met c.in_form.ensures.stored c.known_range.ensures
          c.met_by-items.ensures.items c.met_by-items.ensures.empty;
      free =
          λ part free. any_over _ _ _ (λ p h. h.1) (all_free lawful g.met.V.Eq.laws items r met
          c.in_form.ensures.stored c.known_range.ensures c.met_by-items.ensures.items
          c.met_by-items.ensures.empty part free);
    }))
