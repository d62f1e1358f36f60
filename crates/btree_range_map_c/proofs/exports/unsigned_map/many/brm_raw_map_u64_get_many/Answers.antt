use Rattle.std.proofs.Common.{◌≡◌, rules, subst, take, length, nat_eq}
use Rattle.std.specs.List.{AllZip}
use Rattle.btree_range_map.specs.Bindings.{Binds}
use Rattle.btree_range_map.specs.Holding.{box_items}
use Rattle.btree_range_map.specs.Names.{u64_order}
use Rattle.range_ffi.specs.Bindings.{binding_value}
use Rattle.range_handles.specs.Held.{map_items}
use Rattle.range_handles.specs.Lists.{Ranges}
use Rattle.btree_range_map_c.proofs.exports.unsigned_map.many.brm_raw_map_u64_get_many.Goals as goal

pub returns-in-Unsigned-clause-bound : goal.returns-in-Unsigned-clause-bound
returns-in-Unsigned-clause-bound c = λ done.
    let same : box_items c.as_map.result.now ≡ map_items c.args.handle.now.seal.held =
    search rules in
    subst (λ (items : Ranges). AllZip
    (λ key b. Binds u64_order nat_eq items key (binding_value b))
    c.args.keys.now (take (length c.args.keys.now) c.get_many.new.bindings)) same
    (c.get_many.ensures.bound done)
