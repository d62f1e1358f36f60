use Rattle.std.proofs.Common.{ℕ, ◌≡◌, ◌+◌, ◌≤◌, Bool, map, drop}
use Rattle.regex_hir.specs.Re.{Re}
use Rattle.regex_hir.specs.Meaning.{meaning, cat_all, alt_all, copies, up_to}
use Rattle.lexing_patterns.specs.Built.{IsBuilt}
use Rattle.lexing_patterns.specs.Sizes.{step_count}
use Rattle.lexing_patterns.proofs.builder.Builder.+part.Given as goal

abbrev pub invariant-all_of-loop-i : goal.invariant-all_of-loop-i
invariant-all_of-loop-i l =
    IsBuilt (cat_all (map meaning (drop l.i l.subs))) l.all l.fn.self.next l.self.next
    × (l.fn.self.next ≤ l.self.next)
    × (l.fn.self.budget ≡ l.self.budget + step_count (cat_all (map meaning (drop l.i l.subs))))

abbrev pub invariant-any_of-loop-i : goal.invariant-any_of-loop-i
invariant-any_of-loop-i l =
    IsBuilt (alt_all (map meaning (drop l.i l.subs))) l.any l.fn.self.next l.self.next
    × (l.fn.self.next ≤ l.self.next)
    × (l.fn.self.budget ≡ l.self.budget + step_count (alt_all (map meaning (drop l.i l.subs))))

abbrev pub invariant-copies-loop-done : goal.invariant-copies-loop-done
invariant-copies-loop-done l =
    ((re : Re) (low : ℕ) → low ≤ l.fn.self.next → IsBuilt re l.fn.rest low l.fn.self.next
    → IsBuilt (copies l.done (meaning l.sub) re) l.all low l.self.next
    × (l.fn.self.budget + step_count re
    ≡ l.self.budget + step_count (copies l.done (meaning l.sub) re)))
    × (l.fn.self.next ≤ l.self.next)

abbrev pub invariant-up_to-loop-done : goal.invariant-up_to-loop-done
invariant-up_to-loop-done l =
    ((greedy : Bool)
    → IsBuilt (up_to greedy l.done (meaning l.sub)) l.all l.fn.self.next l.self.next
    × (l.fn.self.budget ≡ l.self.budget + step_count (up_to greedy l.done (meaning l.sub))))
    × (l.fn.self.next ≤ l.self.next)
