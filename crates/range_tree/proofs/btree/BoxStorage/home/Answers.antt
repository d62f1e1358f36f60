use Rattle.std.proofs.Common.{◌-◌, sym}
use Rattle.range_tree.proofs.InLeaf.{leaf_home}
use Rattle.range_tree.proofs.btree.BoxStorage.home.Goals as goal

pub returns-then-edge-gt0 : goal.returns-then-edge-gt0
returns-then-edge-gt0 g c =
    sym (leaf_home c.args.self.now.nodes
    (c.args.self.now.levels - 1) c.args.self.now.root c.args.edge c.requires.edge.edge
    c.if-edge-gt0.true)
