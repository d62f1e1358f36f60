use Rattle.std.proofs.Common.{arith}
use Rattle.lexing_patterns.proofs.Drafting.{none_drafted}
use Rattle.lexing_patterns.proofs.draft.Draft.new.Goals as goal

pub returns : goal.returns
returns c = record {
  automata = rw (c.new.ensures.items, c.new-2.ensures.items, c.new-3.ensures.items) none_drafted;
  taken = tt;
  spent = omega arith;
}
