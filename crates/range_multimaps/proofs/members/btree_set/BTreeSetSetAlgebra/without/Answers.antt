use Rattle.std.proofs.lemmas.Result.{IfOk-weaker}
use Rattle.range_multimaps.specs.ListedMembers.{tree_first_alone}
use Rattle.range_multimaps.proofs.members.btree_set.BTreeSetSetAlgebra.without.Goals as goal

pub returns : goal.returns
returns g c =
    IfOk-weaker c.sub.result _ _
    (λ new made. tree_first_alone g.V.Ord.cmp g.met.V.Ord.total g.V.PartialEq.eq
    g.met.V.Ord.matches_eq
    g.V.Clone.is_clone c.requires c.args.self.now c.args.other.now new made) c.sub.ensures
