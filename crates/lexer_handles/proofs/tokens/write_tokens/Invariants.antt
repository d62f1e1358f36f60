use Rattle.std.proofs.Common.{◌≡◌, ◌+◌, ◌≤◌, ℕ, drop, length, map, take}
use Rattle.lexer_handles.specs.Tokens.{placed_of}
use Rattle.lexer_handles.proofs.tokens.write_tokens.Given as goal

abbrev pub invariant-loop-placed : goal.invariant-loop-placed
invariant-loop-placed l = record {
  counted : l.count ≡ length l.yielded;
  written : map placed_of (take l.count l.tokens) ≡ take (length l.tokens) l.yielded;
  behind : (n : ℕ) → l.count ≤ n → drop n l.tokens ≡ drop n l.fn.tokens;
  few : l.count + goal.iterator-loop-placed.remaining l.placed-iterator ≤ length l.text;
}
