-- What an update answers to a piece, as its tag says.
use Rattle.std.specs.Prelude.{◌≡◌, ℤ, Option, None, Some, Result, Ok, Err, if◌then◌else◌}
use Rattle.std.specs.Ordering.{int_eq}
use Rattle.rangerun.specs.declared.tag.Tag.{Tag}
use Rattle.rangerun.specs.declared.tag.Tag.TheVariants.{Set, Fill, Clear, Fail}

-- what a piece comes to be bound to, or the error: from the value that it is bound to, or none
abbrev pub answer_of : Tag → Option ℤ → Result (Option ℤ) ℤ
answer_of (Set value) old = Ok (Some value)
answer_of (Fill value) None = Ok (Some value)
answer_of (Fill value) (Some old) = Ok (Some old)
answer_of Clear old = Ok None
answer_of (Fail value error) None = Ok None
answer_of (Fail value error) (Some old) = if int_eq old value then Err error else Ok (Some old)

abbrev pub IsAnswerOf : Tag → Option ℤ → Result (Option ℤ) ℤ → Type 0
IsAnswerOf tag old answer = answer ≡ answer_of tag old
