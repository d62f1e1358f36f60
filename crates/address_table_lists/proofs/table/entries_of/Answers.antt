use Rattle.std.proofs.Common.{◌≡◌, [], ◌∷◌, ◌++◌, get_or, sym, ap, take, ◌∙◌}
use Rattle.std.proofs.lemmas.List.{take_more}
use Rattle.address_table_lists.specs.Tables.{tiles_of}
use Rattle.address_table_lists.proofs.TilesOf.{tiles_more}
use Rattle.address_table_lists.proofs.table.entries_of.Goals as goal

pub loop-binding-preserved : goal.loop-binding-preserved
loop-binding-preserved g c =
    let number = g.A.Address.number in
    let at = g.A.Address.at in
    let width = g.A.Address.WIDTH in
    let bindings = c.args.bindings.now in
    let binding = c.binding-item.result in
    let is : get_or c.args.bindings.now c.loop-binding.binding-index c.binding-item.result
    ≡ c.binding-item.result = cc in
    rw (take_more bindings c.loop-binding.binding-index binding c.loop-binding-test.true, is)
    (c.in_ok-push_binding.ensures
    ∙ ap (λ es. es ++ tiles_of number at width (binding ∷ [])) c.loop-binding.invariant
    ∙ sym (tiles_more number at width (take c.loop-binding.binding-index bindings) binding))
