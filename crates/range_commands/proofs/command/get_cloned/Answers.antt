use Rattle.range_runs.specs.Bindings.{IsBound}
use Rattle.range_runs.proofs.Overlaps.{binds_bound}
use Rattle.range_runs.proofs.Results.{on_error}
use Rattle.range_bulk.proofs.BoundKeys.{bound_to_equal}
use Rattle.range_commands.proofs.command.get_cloned.Goals as goal

pub returns-in_ok-clone-in-Some-clause-value : goal.returns-in_ok-clone-in-Some-clause-value
returns-in_ok-clone-in-Some-clause-value g c =
    bound_to_equal g.K.MaybeBounded.order g.V.PartialEq.eq g.met.V.Eq.laws
    (g.C.Storage.items c.args.map.now) c.args.key c.in-Some.value.now
    c.in_ok-clone-in-Some.field-0
    (c.requires.values c.in-Some.value.now c.in_ok-clone-in-Some.field-0
    c.in_ok-clone-in-Some.ensures.cases) c.in-Some.ensures.value

pub returns-in_err-clone-in-Some-clause-refused : goal.returns-in_err-clone-in-Some-clause-refused
returns-in_err-clone-in-Some-clause-refused g c =
    let order = g.K.MaybeBounded.order in
    let items = g.C.Storage.items c.args.map.now in
    on_error (IsBound order items c.args.key) c.from_residual.result
    (binds_bound order g.V.PartialEq.eq items c.args.key c.in-Some.value.now
    c.in-Some.ensures.value)
