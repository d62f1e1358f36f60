use Rattle.charmoves.specs.Automata.{rules_of}
use Rattle.charmoves.proofs.Paths.{accepting_shared}
use Rattle.charmoves.proofs.moves.Moves.is_accepting.Goals as goal

pub returns : goal.returns
returns c = record {
  accepting = accepting_shared (rules_of c.args.self.now) c.args.states.now
      c.is_disjoint.result c.is_disjoint.ensures;
}
