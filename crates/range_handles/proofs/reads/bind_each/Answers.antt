use Rattle.std.proofs.Common.{◌≡◌, ◌∙◌, arith, rules, refl, sym, subst, get_or, nat_eq, length-set}
use Rattle.std.proofs.lemmas.List.{drop-set-lt}
use Rattle.btree_range_map.specs.Bindings.{Binds}
use Rattle.btree_range_map.specs.Holding.{box_items}
use Rattle.range_ffi.specs.Bindings.{binding_value}
use Rattle.range_handles.proofs.Fills.{one_more_pair}
use Rattle.range_handles.proofs.reads.bind_each.Goals as goal

pub loop-count-init : goal.loop-count-init
loop-count-init g c =
    record { bound = tt; rest = λ n le. refl; within = search rules; same = refl }

pub loop-count-preserved : goal.loop-count-preserved
loop-count-preserved g c =
    let bindings = c.loop-count.bindings in
    let count = c.loop-count.count in
    let key = c.index-keys-count.result in
    let read : key ≡ get_or c.args.keys.now count key = search rules in
    record {
      bound =
          one_more_pair _ c.args.keys.now bindings count key c.of.result
          c.loop-count-test.true (omega arith) c.loop-count.invariant.bound
          (subst (λ k. Binds g.K.MaybeBounded.order nat_eq (box_items c.args.stored.now) k
          (binding_value c.of.result)) read
          (subst (λ v. Binds g.K.MaybeBounded.order nat_eq (box_items c.args.stored.now) key v)
          (sym (c.of.ensures ∙ c.copied.ensures)) c.get.ensures.value));
      rest = λ n past.
          drop-set-lt n bindings count c.of.result (omega arith)
          ∙ c.loop-count.invariant.rest n (omega arith);
      within = omega arith;
      same = length-set bindings count c.of.result ∙ c.loop-count.invariant.same;
    }
