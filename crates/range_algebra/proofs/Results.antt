-- Facts about what a call answers.
use Rattle.std.proofs.Common.{Result, IfOk, OnErr, arith}
use Rattle.std.specs.Prelude.{MatchResult}

-- a weaker fact of the same answer
pub if_ok : {A E : Type 0} (P Q : A → Type 0) (r : Result A E) → ((x : A) → P x → Q x) → IfOk r P
    → IfOk r Q
if_ok P Q r f h = grind arith

pub if_ok_of : {A E : Type 0} (P Q : A → Type 0) (F : E → Type 0) (r : Result A E)
    → ((x : A) → P x → Q x) → MatchResult r P F → IfOk r Q
if_ok_of P Q F r f h = grind arith

-- two facts of the same answer
pub if_ok_both : {A E : Type 0} (P Q R : A → Type 0) (r : Result A E) → ((x : A) → P x → Q x → R x)
    → IfOk r P → IfOk r Q → IfOk r R
if_ok_both P Q R r f h k = grind arith

-- what every error of the answer says
pub on_err_of : {A E : Type 0} (P : A → Type 0) (F : Type 0) (r : Result A E)
    → MatchResult r P (λ _. F) → OnErr r F
on_err_of P F r h = grind arith
