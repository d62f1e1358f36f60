use Rattle.std.proofs.Common.{◌≡◌, ◌≤◌, ◌^◌, Some, length, take}
use Rattle.std.specs.List.{AllZip, Contains, slice_get}
use Rattle.tokens.specs.Heads.{AddsOnly, KeepsNames, mode_names, texts_of}
use Rattle.tokens.proofs.heads.numbers_of.Given as goal

abbrev pub invariant-loop-at : goal.invariant-loop-at
invariant-loop-at l = record {
  numbers : AllZip (λ name number. slice_get (texts_of l.names.items) number ≡ Some name)
      (take l.at (texts_of l.called.items)) l.numbers.items;
  kept : KeepsNames (texts_of l.fn.names.items) (texts_of l.names.items);
  added : AddsOnly (Contains (mode_names l.line)) (texts_of l.fn.names.items)
      (texts_of l.names.items);
  few : length l.names.items ≤ 2 ^ 32;
}
