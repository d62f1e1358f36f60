use Rattle.std.proofs.Common.{◌≡◌, ◌+◌, ◌≤◌, drop}
use Rattle.lexing_patterns.specs.Built.{IsBuilt}
use Rattle.lexing_patterns.specs.Sizes.{step_count}
use Rattle.regex_hir.specs.Re.{literal}
use Rattle.std.specs.Str.{encode_utf8_all}
use Rattle.lexing_patterns.proofs.builder.Builder.literal.Given as goal

abbrev pub invariant-loop-i : goal.invariant-loop-i
invariant-loop-i l =
    IsBuilt (literal (encode_utf8_all (drop l.i l.characters.items))) l.all l.fn.self.next l.self.next
    × (l.fn.self.next ≤ l.self.next)
    × (l.fn.self.budget
    ≡ l.self.budget + step_count (literal (encode_utf8_all (drop l.i l.characters.items))))
