use Rattle.std.proofs.Common.{ℕ, ◌^◌, List, [], ◌∷◌, ◌++◌, append_assoc, append-nil, ap, sym, subst, ◌∙◌}
use Rattle.btree_range_map.specs.Holding.{box_items}
use Rattle.btree_range_map.specs.KeySets.{HoldsKey}
use Rattle.address_prefixes.specs.Runs.{AreRuns}
use Rattle.address_covers.proofs.blocks.runs_in.Goals as goal

pub loop-run-init : goal.loop-run-init
loop-run-init g c =
    subst (λ l. AreRuns (λ n. HoldsKey g.A.MaybeBounded.order (box_items c.args.set.now) (g.A.Address.at n))
    (2 ^ g.A.Address.WIDTH) (l ++ c.runs_of-runs.result)) (sym c.new-found.ensures.items)
    c.runs_of-runs.ensures

pub loop-run-preserved : goal.loop-run-preserved
loop-run-preserved g c =
    let found = c.loop-run.found.items in
    subst (λ l. AreRuns (λ n. HoldsKey g.A.MaybeBounded.order (box_items c.args.set.now) (g.A.Address.at n))
    (2 ^ g.A.Address.WIDTH) l)
    (ap (λ (l : List (ℕ × ℕ)). found ++ l) c.in-Some.ensures.steps
    ∙ sym (append_assoc found (c.in-Some.run' ∷ []) c.next.new.self)
    ∙ ap (λ (l : List (ℕ × ℕ)). l ++ c.next.new.self) (sym c.in_ok-push.ensures.items))
    c.loop-run.invariant

pub returns : goal.returns
returns g c =
    let found = c.loop-run.found.items in
    subst (λ l. AreRuns (λ n. HoldsKey g.A.MaybeBounded.order (box_items c.args.set.now) (g.A.Address.at n))
    (2 ^ g.A.Address.WIDTH) l)
    (ap (λ (l : List (ℕ × ℕ)). found ++ l) c.in_default.ensures.steps.0 ∙ append-nil found)
    c.loop-run.invariant
