use Rattle.address_lists.proofs.Relations.{inverse_is}
use Rattle.address_lists.proofs.addresses.Addresses.inverse.Goals as goal

pub returns : goal.returns
returns c =
    inverse_is c.args.self.now (record { v4 = c.in_ok-v4.v4; v6 = c.in_ok-v6.v6 }) c.in_ok-v4.ensures
    c.in_ok-v6.ensures
