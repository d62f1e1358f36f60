use Rattle.std.proofs.Common.{sym, ◌∙◌, inl, inr}
use Rattle.range_handles.proofs.kept_map.KeptMap.append.Goals as goal
use Rattle.range_handles.proofs.kept_map.KeptMap.append.Goals.{in-Ok, in-Err}

pub returns-clause-bound : goal.returns-clause-bound
returns-clause-bound g c = λ done. elim c.match-append.branch [
  | in-Ok w ↦
      rw (← c.self.view_is, ← c.other.view_is) (rw w.in-Ok.is at c.append.ensures.bound)
  | in-Err w ↦ absurd (w.of_disorder.ensures.not_done (sym w.result-is ∙ done))
]

pub returns-clause-answer : goal.returns-clause-answer
returns-clause-answer g c = elim c.match-append.branch [
  | in-Ok w ↦ inl w.result-is
  | in-Err w ↦ elim w.of_disorder.ensures.answer [
    | inl memory ↦ inr (inl (w.result-is ∙ memory))
    | inr order ↦ inr (inr (w.result-is ∙ order))
  ]
]
