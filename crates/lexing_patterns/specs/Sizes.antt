-- How large the parts of patterns are, and how many steps it takes to make them.
use Rattle.std.specs.Prelude.{◌≡◌, ℕ, ◌+◌, ◌*◌, Bool, true, false, ◌&&◌, ◌||◌, if◌then◌else◌, List, [], ◌∷◌, length, vec_len}
use Rattle.std.specs.Str.{chars}
use Rattle.lexing_classes.specs.Leads.{lead_count}
use Rattle.regex_hir.specs.Re.{Re, empty, literal, byte_in, char_in, look, cat, alt, group, plus}
use Rattle.lexing_patterns.specs.declared.part.Part.{Part}

-- in how many ways a part is entered, in how many states a text may end, whether the empty text is
-- accepted, and how many steps were made
pub record Size : Type 0 where
  pub leads : ℕ
  pub ends : ℕ
  pub nullable : Bool
  pub steps : ℕ

abbrev pub empty_size : Size
empty_size = record { leads = 0; ends = 0; nullable = true; steps = 1 }

-- one state, unless there is no range
abbrev pub end_count : List (ℕ × ℕ) → ℕ
end_count [] = 0
end_count (range ∷ ranges) = 1

-- a step for each range and one more
abbrev pub class_size : List (ℕ × ℕ) → Size
class_size ranges = record {
  leads = lead_count ranges;
  ends = end_count ranges;
  nullable = false;
  steps = length ranges + 1;
}

-- a step for each edge from the one part to the other
abbrev pub turn_size : Size → Size → Size
turn_size a b = record {
  leads = a.leads + (if a.nullable then b.leads else 0);
  ends = b.ends + (if b.nullable then a.ends else 0);
  nullable = a.nullable && b.nullable;
  steps = a.steps + b.steps + a.ends * b.leads;
}

abbrev pub choice_size : Size → Size → Size
choice_size a b = record {
  leads = a.leads + b.leads;
  ends = a.ends + b.ends;
  nullable = a.nullable || b.nullable;
  steps = a.steps + b.steps;
}

-- a step for each edge from the part back to it
abbrev pub rounds_size : Size → Size
rounds_size a = record a { steps = a.steps + a.ends * a.leads }

-- one character after the other
abbrev pub text_size : List ℕ → Size
text_size [] = empty_size
text_size (c ∷ cs) = turn_size (class_size ((c, c) ∷ [])) (text_size cs)

abbrev pub size_of : Re → Size
size_of empty = empty_size
size_of (literal bytes) = text_size (chars bytes)
size_of (byte_in ranges) = class_size ranges
size_of (char_in ranges) = class_size ranges
size_of (look assertion) = empty_size
size_of (cat a b) = turn_size (size_of a) (size_of b)
size_of (alt a b) = choice_size (size_of a) (size_of b)
size_of (group number a) = size_of a
size_of (plus greedy a) = rounds_size (size_of a)

abbrev pub step_count : Re → ℕ
step_count re = (size_of re).steps

-- the steps of the patterns, and one more for the start of each
abbrev pub total_steps : List Re → ℕ
total_steps [] = 0
total_steps (re ∷ res) = step_count re + 1 + total_steps res

-- how many steps the patterns of one lexer may take together
abbrev pub step_budget : ℕ
step_budget = 1_000_000

-- the part is as large as this
pub record HasSize (part : Part) (size : Size) : Type 0 where
  pub leads : vec_len part.leads ≡ size.leads
  pub ends : vec_len part.ends ≡ size.ends
  pub nullable : part.empty ≡ size.nullable
