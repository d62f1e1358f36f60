use Rattle.std.proofs.Common.{ap, ◌∙◌, option_map}
use Rattle.json.specs.Value.{value_view}
use Rattle.json_trees.specs.Borrowed.{data_of}
use Rattle.json_trees.proofs.Seen.{get_seen, of_ref}
use Rattle.json_trees.proofs.borrowed.ValueJsonTree.get.Goals as goal

pub returns : goal.returns
returns c =
    of_ref c.get.result ∙ ap (option_map data_of) c.get.ensures
    ∙ get_seen c.args.name.now (value_view c.args.self.now)
