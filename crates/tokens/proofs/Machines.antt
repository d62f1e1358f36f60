-- What is said of rules, and why.
use Rattle.std.proofs.Common.{◌≡◌, ◌≢◌, refl, inl, inr, ℕ, ◌++◌, List, take, true≢false}
use Rattle.std.proofs.lemmas.List.{take-map}
use Rattle.std.proofs.lemmas.Option.{IfSome_then}
use Rattle.std.proofs.lemmas.Result.{IfOk-weaker}
use Rattle.std.specs.Prelude.{Result, Option, Some, None, IfOk, IfSome, IsNone, ⊤}
use Rattle.std.specs.List.{slice_get, AllZip}
use Rattle.std.specs.Io.KnownBytes.{Appends}
use Rattle.line_program.specs.Listing.{Writes}
use Rattle.line_program.proofs.Listing.{appends_then}
use Rattle.lexing.specs.declared.machine.Machine.{Machine}
use Rattle.lexing_modes.specs.declared.modes.Modes.{Modes}
use Rattle.lexing_mode_patterns.specs.declared.rules.ModeRule.{ModeRule}
use Rattle.lexing_mode_patterns.specs.Rules.{patterns_of}
use Rattle.lexing_patterns.specs.declared.error.PatternError.TheVariants.{Memory}
use Rattle.lexing_patterns.specs.declared.error.RuleError.{RuleError}
use Rattle.lexing_patterns.specs.Faults.{AreTaken, IsRefusal}
use Rattle.regex_hir.specs.Re.{Re}
use Rattle.tokens.specs.Complaints.{IsBadLine, TellsOfFirst}
use Rattle.tokens.specs.Heads.{AreModesOf}
use Rattle.tokens.specs.Rules.{AreNumbered, AreRead, IsNumbered, IsRule, line_place, rule_lines, TellsOfLine}
use Rattle.tokens.proofs.Lists.{map_at}

-- what holds of modes that are found, if some are
pub found_as : {E : Type 0} (r : Result (Option (Modes Machine)) E) (P Q : Modes Machine → Type 0)
    → ((modes : Modes Machine) → P modes → Q modes) → IfOk r (λ found. IfSome found P)
    → IfOk r (λ found. IfSome found Q)
found_as r P Q follows h = IfOk-weaker r _ _ (λ found some. IfSome_then found some follows) h

-- what is said of a line
pub tells_of_line : (path : List ℕ) (number : ℕ) (before now after : Option (List ℕ))
    → Appends before now (line_place path number) → Writes now after (λ more. ⊤)
    → Writes before after (TellsOfLine path number)
tells_of_line path number before now after place (more, any, appended) = (
  line_place path number ++ more,
  (more, refl),
  appends_then before now after (line_place path number) more place appended,
)

-- the rule that is not taken is that of the first such line
pub first_fault : (names all : List (List ℕ)) (rules : List ModeRule) (numbers : List ℕ)
    (bad : RuleError) (number : ℕ) (rule : ModeRule) → AreNumbered names all numbers rules
    → slice_get numbers bad.rule ≡ Some number → slice_get rules bad.rule ≡ Some rule
    → bad.error ≢ Memory → IsRefusal (patterns_of rules) bad
    → (patterns : List Re) × AreTaken (patterns_of (take bad.rule rules)) patterns
    × IsNumbered names (IsBadLine names patterns) all number (take bad.rule rules)
first_fault names all rules numbers bad number rule are at there not_memory (inl memory) =
    absurd (not_memory memory)
first_fault names all rules numbers bad number rule are at there not_memory
    (inr (other, stands, patterns, taken, fault)) =
    let has = map_at (λ one. one.rule) rules bad.rule rule there in
    let same : other ≡ rule.rule = cc in
    let (before, line, is, here, front, is_rule) = are bad.rule number rule at there in (
      patterns,
      rw (take-map (λ one. one.rule) bad.rule rules) at taken,
      (
        before,
        line,
        is,
        here,
        front,
        inr (rule, bad.error, is_rule, not_memory, rw same at fault),
      ),
    )

-- the line that is no rule is the first
pub no_rule_first : (path : List ℕ) (names all : List (List ℕ)) (number : ℕ) (rules : List ModeRule)
    (patterns : List Re) (said : List ℕ) → AreModesOf all names → AreTaken (patterns_of rules) patterns
    → AreRead names all (Some number) rules → TellsOfLine path number said
    → TellsOfFirst path all said
no_rule_first path names all number rules patterns said modes taken
    (before, line, is, here, front, none) tells = (
      names,
      number,
      rules,
      patterns,
      modes,
      tells,
      taken,
      (before, line, is, here, front, inl none),
    )

-- without a line that is no rule the rules are those of all lines
pub all_read : (names all : List (List ℕ)) (no_rule : Option ℕ) (rules : List ModeRule)
    → AreRead names all no_rule rules → IsNone no_rule → AllZip (IsRule names) (rule_lines all) rules
all_read names all None rules read none = read
all_read names all (Some number) rules read none = absurd (true≢false none)
