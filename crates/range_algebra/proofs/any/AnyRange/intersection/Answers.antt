use Rattle.std.proofs.Common.{◌≡◌, ◌∙◌, subst, OnErr}
use Rattle.range_algebra.specs.Clones.{SameBound, IsRangeInfallible, bound_clone}
use Rattle.range_algebra.specs.Combined.{common}
use Rattle.range_algebra.specs.References.{range_of}
use Rattle.range_algebra.proofs.Results.{if_ok_of, if_ok_both, on_err_of}
use Rattle.range_algebra.proofs.Taking.{clones_tie, same_common_holds}
use Rattle.range_algebra.proofs.any.AnyRange.intersection.Goals as goal

pub returns-clause-start : goal.returns-clause-start
returns-clause-start g c =
    let order = g.T.MaybeBounded.order in
    let tie =
    clones_tie order g.T.Clone.is_clone g.T.PartialEq.eq g.T.Ord.cmp
    g.met.T.MaybeBounded.order_is_cmp g.met.T.Ord.matches_eq c.requires.clones in
    let e : range_of c.common.result ≡ common order c.args.self.now c.args.other.now =
    c.common.ensures
    ∙ (λ i. common order (c.by_reference-own.ensures i) (c.by_reference-others.ensures i))
    in
    if_ok_of _ _ _ c.cloned.result
    (λ r h. subst (λ x. SameBound order x.start r.start) e
    (bound_clone order g.met.T.PartialEnum.lawful g.T.Clone.is_clone tie
    (range_of c.common.result).start r.start h.0)) c.cloned.ensures

pub returns-clause-end : goal.returns-clause-end
returns-clause-end g c =
    let order = g.T.MaybeBounded.order in
    let tie =
    clones_tie order g.T.Clone.is_clone g.T.PartialEq.eq g.T.Ord.cmp
    g.met.T.MaybeBounded.order_is_cmp g.met.T.Ord.matches_eq c.requires.clones in
    let e : range_of c.common.result ≡ common order c.args.self.now c.args.other.now =
    c.common.ensures
    ∙ (λ i. common order (c.by_reference-own.ensures i) (c.by_reference-others.ensures i))
    in
    if_ok_of _ _ _ c.cloned.result
    (λ r h. subst (λ x. SameBound order x.end r.end) e
    (bound_clone order g.met.T.PartialEnum.lawful g.T.Clone.is_clone tie
    (range_of c.common.result).end r.end h.1)) c.cloned.ensures

pub returns-clause-held : goal.returns-clause-held
returns-clause-held g c =
    if_ok_both _ _ _ c.cloned.result
    (same_common_holds g.T.MaybeBounded.order g.met.T.PartialEnum.lawful c.args.self.now
    c.args.other.now) (returns-clause-start g c) (returns-clause-end g c)

pub returns-clause-fails : goal.returns-clause-fails
returns-clause-fails g c =
    let order = g.T.MaybeBounded.order in
    let e : range_of c.common.result ≡ common order c.args.self.now c.args.other.now =
    c.common.ensures
    ∙ (λ i. common order (c.by_reference-own.ensures i) (c.by_reference-others.ensures i))
    in
    subst (λ x. OnErr c.cloned.result (¬ IsRangeInfallible g.T.Clone.is_infallible x)) e
    (on_err_of _ _ c.cloned.result c.cloned.ensures)
