use Rattle.std.proofs.Common.{◌≡◌, List, take, length}
use Rattle.regex_hir.specs.Re.{Re}
use Rattle.lexing_patterns.specs.Drafts.{IsDraft}
use Rattle.lexing_patterns.specs.Patterns.{AreReadAs}
use Rattle.lexing_patterns.proofs.patterns.draft_of.Given as goal

abbrev pub invariant-loop-i : goal.invariant-loop-i
invariant-loop-i l = (res : List Re) × (l.i ≡ length res) × AreReadAs (take l.i l.rules) res
    × IsDraft l.draft res
