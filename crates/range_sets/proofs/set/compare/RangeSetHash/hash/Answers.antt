use Rattle.std.proofs.Common.{ap, ◌∙◌, arith}
use Rattle.std.specs.List.{fold}
use Rattle.range_sets.proofs.Likeness.{held_bound, hashed_sets}
use Rattle.range_sets.proofs.set.compare.RangeSetHash.hash.Goals as goal

pub returns : goal.returns
returns g c =
    record {
      value = grind (arith, hashed_sets);
      same =
          let order = g.T.MaybeBounded.order in
          rw (← c.self.view_is)
          (λ complete others stored alike.
          c.hash.ensures.same complete others stored
          ((held_bound order (g.C.Storage.items c.self.inside.map) others).0 alike)
          ∙ ap (fold g.H.Hasher.write c.args.state.now)
          (hashed_sets order g.T.Hash.hash_input others));
    }
