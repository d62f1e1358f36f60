use Rattle.line_program.proofs.Listing.{writes_as}
use Rattle.address_lists.proofs.Serving.{is_split}
use Rattle.address_lists.proofs.split.write_split_prefix.Goals as goal

pub returns : goal.returns
returns g c =
    writes_as c.write_split.result _ _ _ _
    (λ text. is_split c.args.around.before.now c.args.around.after.now c.family.result
    c.family-2.result g.A.FamilyAddress.its_family g.A.Address.number c.args.lengths.now
    c.args.prefix c.split_length-length.result c.number.result text c.family.ensures
    c.family-2.ensures c.number.ensures c.split_length-length.ensures)
    c.write_split.ensures
