use Rattle.std.proofs.Common.{◌≡◌, rules, subst, take, length, nat_eq}
use Rattle.std.specs.List.{AllZip}
use Rattle.btree_range_map.specs.Bindings.{Binds}
use Rattle.btree_range_map.specs.Holding.{box_items}
use Rattle.btree_range_map.specs.Names.{i64_order}
use Rattle.range_ffi.specs.Bindings.{binding_value}
use Rattle.range_handles.specs.Held.{signed_items}
use Rattle.range_handles.specs.Lists.{SignedRanges}
use Rattle.btree_range_map_c.proofs.exports.signed_map.many.brm_raw_map_i64_get_many.Goals as goal

pub returns-in-Signed-clause-bound : goal.returns-in-Signed-clause-bound
returns-in-Signed-clause-bound c = λ done.
    let same : box_items c.as_map.result.now ≡ signed_items c.args.handle.now.seal.held =
    search rules in
    subst (λ (items : SignedRanges). AllZip
    (λ key b. Binds i64_order nat_eq items key (binding_value b))
    c.args.keys.now (take (length c.args.keys.now) c.get_many.new.bindings)) same
    (c.get_many.ensures.bound done)
