use Rattle.address_lists.proofs.Files.{json_joined}
use Rattle.address_lists.proofs.file.add_json.Goals as goal

pub returns-in-Ok-clause-added : goal.returns-in-Ok-clause-added
returns-in-Ok-clause-added g c =
    json_joined (g.R.Read.remaining c.args.input.now) c.args.text.items c.in_ok-other.other
    c.args.list.now c.join.new.self c.in_ok-other.ensures.read c.in-Ok.ensures
