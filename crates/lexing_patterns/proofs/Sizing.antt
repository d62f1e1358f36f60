-- How large parts are that were put together.
use Rattle.std.proofs.Common.{◌≡◌, refl, ◌∙◌, ◌+◌, Bool, true, false, vec_len, arith}
use Rattle.std.specs.Prelude.{◌&&◌, ◌||◌, if◌then◌else◌}
use Rattle.regex_hir.specs.Re.{Re}
use Rattle.regex_hir.specs.Meaning.{optional}
use Rattle.lexing_patterns.specs.declared.part.Part.{Part}
use Rattle.lexing_patterns.specs.Sizes.{HasSize, Size, choice_size, empty_size, size_of, step_count, turn_size}

-- one after the other
pub turn_sized : (front back both : Part) (a b : Size) → HasSize front a → HasSize back b
    → vec_len both.leads ≡ vec_len front.leads + (if front.empty then vec_len back.leads else 0)
    → vec_len both.ends ≡ vec_len back.ends + (if back.empty then vec_len front.ends else 0)
    → both.empty ≡ (front.empty && back.empty) → HasSize both (turn_size a b)
turn_sized front back both a b first second leads ends empty =
    let of_leads = first.leads in
    let of_ends = first.ends in
    let leads_of = second.leads in
    let ends_of = second.ends in
    let one = first.nullable in
    let other = second.nullable in record {
      leads = rw (← of_leads, ← leads_of, ← one) leads;
      ends = rw (← of_ends, ← ends_of, ← other) ends;
      nullable = rw (← one, ← other) empty;
    }

-- side by side
pub choice_sized : (one other both : Part) (a b : Size) → HasSize one a → HasSize other b
    → vec_len both.leads ≡ vec_len other.leads + vec_len one.leads
    → vec_len both.ends ≡ vec_len other.ends + vec_len one.ends
    → both.empty ≡ (one.empty || other.empty) → HasSize both (choice_size a b)
choice_sized one other both a b first second leads ends empty =
    let of_one = first.nullable in
    let of_other = second.nullable in record {
      leads = omega (arith, leads, first.leads, second.leads);
      ends = omega (arith, ends, first.ends, second.ends);
      nullable = rw (← of_one, ← of_other) empty;
    }

-- a part that accepts the empty text too
pub optional_sized : (greedy : Bool) (a : Re) (part : Part)
    → HasSize part (choice_size (size_of a) empty_size) → HasSize part (size_of (optional greedy a))
optional_sized true a part is = is
optional_sized false a part is = record {
  leads = omega (arith, is.leads);
  ends = omega (arith, is.ends);
  nullable = is.nullable ∙ or_true (size_of a).nullable;
}
  where
    or_true : (b : Bool) → (b || true) ≡ true
    or_true true = refl
    or_true false = refl

pub step_optional : (greedy : Bool) (a : Re) → step_count (optional greedy a) ≡ step_count a + 1
step_optional true a = refl
step_optional false a = omega arith
