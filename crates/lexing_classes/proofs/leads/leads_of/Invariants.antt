use Rattle.std.proofs.Common.{ℕ, ◌≡◌, ◌↔◌, take, vec_len}
use Rattle.std.specs.Char.{IsScalar}
use Rattle.lexing_classes.specs.Leads.{AnyOf, Leads, HasPiece, lead_count}
use Rattle.lexing_classes.proofs.leads.leads_of.Given as goal

abbrev pub invariant-loop-range : goal.invariant-loop-range
invariant-loop-range l = record {
  members : (c q : ℕ) → IsScalar c → Leads l.leads.items c q
      ↔ AnyOf (λ r. HasPiece r.0 r.1 l.to c q) (take l.range-index l.ranges);
  one : (c q : ℕ) → Leads l.leads.items c q → q ≡ l.to;
  count : vec_len l.leads ≡ lead_count (take l.range-index l.ranges);
}
