-- What is said of rules, one after the other.
use Rattle.std.proofs.Common.{◌≡◌, refl, ℕ, ◌+◌, List, [], ◌++◌, length, drop, Option, Some, append_assoc, arith}
use Rattle.std.specs.List.{slice_get}
use Rattle.std.specs.Prelude.{codes, decimal}
use Rattle.std.specs.Io.KnownBytes.{Appends}
use Rattle.std.proofs.lemmas.List.{drop_all}
use Rattle.line_program.specs.Listing.{Writes}
use Rattle.line_program.proofs.Listing.{append_nil, appends_none, appends_then}
use Rattle.lexing.specs.declared.lexer.Lexer.{Lexer}
use Rattle.lexing.specs.declared.table.TableState.{TableState}
use Rattle.lexing_mode_patterns.specs.declared.rules.ModeRule.{ModeRule}
use Rattle.tokens.specs.Warnings.{IsWarned, Warns, warning}
use Rattle.tokens.proofs.Lists.{item_drop}

module _ (lexer : Lexer) (table : List TableState) (path : List ℕ) (numbers : List ℕ)
    (rules : List ModeRule) where
  -- what is said of the rules before this one is written
  pub record HasWarned (rule : ℕ) (before now : Option (List ℕ)) : Type 0 where
    pub written : List ℕ
    pub appended : Appends before now written
    pub goes_on : (more : List ℕ)
        → IsWarned lexer table path rule (drop rule numbers) (drop rule rules) more
        → IsWarned lexer table path 0 numbers rules (written ++ more)

  pub warned_none : (known : Option (List ℕ)) → HasWarned 0 known known
  warned_none known =
      record { written = []; appended = appends_none known; goes_on = λ more is. is }

  pub warned_more : (rule number : ℕ) (this : ModeRule) (before now after : Option (List ℕ))
      → slice_get numbers rule ≡ Some number → slice_get rules rule ≡ Some this
      → HasWarned rule before now
      → Writes now after (Warns lexer table path rule number this.rule.name.now)
      → HasWarned (rule + 1) before after
  warned_more rule number this before now after at there was (line, warns, more) = record {
    written = was.written ++ line;
    appended = appends_then before now after was.written line was.appended more;
    goes_on = λ said is.
        rw (append_assoc was.written line said)
        (was.goes_on (line ++ said)
        (rw (item_drop numbers rule number at, item_drop rules rule this there)
        (line, said, warns, is, refl)));
  }

  pub warned_all : (rule : ℕ) (before now : Option (List ℕ)) → rule ≡ length numbers
      → rule ≡ length rules → HasWarned rule before now
      → Writes before now (IsWarned lexer table path 0 numbers rules)
  warned_all rule before now end also was = (
    was.written,
    rw append_nil at (was.goes_on []
        (rw (drop_all rule numbers (omega (arith, end)), drop_all rule rules (omega (arith, also))) refl)),
    was.appended,
  )

pub warning_is : (path : List ℕ) (number : ℕ) (name : List ℕ)
    → path ++ (codes ":" ++ (decimal number ++ (codes ": warning: no token is of the rule " ++ (name
    ++ codes ": all texts that it matches are empty or earlier rules match them\n"))))
    ≡ warning path number name
warning_is path number name = simp append_assoc
