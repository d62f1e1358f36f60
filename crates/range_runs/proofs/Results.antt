-- What an error answers.
use Rattle.std.proofs.Common.{arith, Result, OnErr}
use Rattle.std.proofs.lemmas.Grind.{common_steps}
use Rattle.std.specs.Result.{IfOk, IsErr}

pub error_has_no_value : {A E : Type 0} (P : A → Type 0) (r : Result A E) → IsErr r → IfOk r P
error_has_no_value P r is = grind (arith, common_steps)

pub on_error : {A E : Type 0} (P : Type 0) (r : Result A E) → P → OnErr r P
on_error P r p = grind (arith, common_steps)
