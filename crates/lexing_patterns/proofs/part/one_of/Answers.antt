use Rattle.std.proofs.Common.{inl, inr, arith}
use Rattle.lexing_classes.specs.Leads.{Leads}
use Rattle.lexing_patterns.proofs.CharacterRanges.{one_read}
use Rattle.lexing_patterns.proofs.part.one_of.Goals as goal

pub returns-clause-reads : goal.returns-clause-reads
returns-clause-reads c =
    λ w s.
    rw (c.in_ok-ends.ensures.items, c.new.ensures.items)
    (one_read (Leads c.in_ok-leads.leads.items) c.args.ranges.now c.args.state
    c.in_ok-leads.ensures.members w s)

pub returns-clause-within : goal.returns-clause-within
returns-clause-within c = record {
  leads = λ d q h. grind (arith, c.in_ok-leads.ensures.one d q h);
  ends = λ q h. grind arith;
  edges = λ p d q h. grind arith;
}
