use Rattle.std.proofs.Common.{◌≡◌, [], length}
use Rattle.tokens.specs.Counts.{AreCounts, rules_in}
use Rattle.tokens.specs.Printing.{are_tokens}
use Rattle.tokens.proofs.count.count_tokens.Given as goal

abbrev pub invariant-loop-next : goal.invariant-loop-next
invariant-loop-next l = record {
  len : length l.counts ≡ length l.fn.counts;
  whole : l.is_whole ≡ are_tokens l.yielded;
  counted : AreCounts [] l.fn.counts → AreCounts (rules_in l.mode l.yielded) l.counts;
}
