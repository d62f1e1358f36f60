-- Repetitions, by what they are made of; and the same of a part, told in other words.
use Rattle.std.proofs.Common.{◌≡◌, refl, sym, ap, ℕ, zero, suc, ◌-◌, Bool, Some, None, arith}
use Rattle.regex_hir.specs.Re.{Re, plus}
use Rattle.regex_hir.specs.Meaning.{repeat, copies, up_to, optional}

pub repeat_bounded : (least most : ℕ) (greedy : Bool) (a : Re)
    → repeat least (Some most) greedy a ≡ copies least a (up_to greedy (most - least) a)
unfolding repeat
repeat_bounded least most greedy a = refl

pub repeat_star : (greedy : Bool) (a : Re)
    → repeat 0 None greedy a ≡ optional greedy (plus greedy a)
unfolding repeat
repeat_star greedy a = refl

pub repeat_plus : (least : ℕ) (greedy : Bool) (a : Re) → ¬ (least ≡ 0)
    → repeat least None greedy a ≡ copies (least - 1) a (plus greedy a)
unfolding repeat
repeat_plus least greedy a some = grind arith
