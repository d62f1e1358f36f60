use Rattle.std.proofs.Common.{ℕ, ◌↔◌, ◌⊎◌, take}
use Rattle.btree_range_map.specs.Characters.{IsCharacter}
use Rattle.charmoves.specs.Automata.{HasRule, KeepsStarts}
use Rattle.lexing_patterns.specs.Parts.{HasEdge}
use Rattle.lexing_patterns.proofs.pour.add_edges.Given as goal

abbrev pub invariant-loop-edge : goal.invariant-loop-edge
invariant-loop-edge l = record {
  edges : (p c q : ℕ) → IsCharacter c → HasRule l.rules p c q
      ↔ (HasRule l.initial.rules p c q ⊎ HasEdge (take l.edge-index l.edges) p c q);
  starts : KeepsStarts l.initial.rules l.rules;
}
