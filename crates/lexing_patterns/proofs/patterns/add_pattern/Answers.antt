use Rattle.std.proofs.Common.{refl, subst, ◌∙◌, map}
use Rattle.std.proofs.Common.{arith}
use Rattle.std.specs.Option.{option_map}
use Rattle.std.specs.String.{string_bytes}
use Rattle.regex_hir.specs.Meaning.{meaning}
use Rattle.regex_syntax.specs.Verdict.{Reads}
use Rattle.std.proofs.lemmas.Result.{IfErr-weaker, on_ok_weaker}
use Rattle.lexing_patterns.proofs.Totals.{fault_read}
use Rattle.lexing_patterns.proofs.patterns.add_pattern.Goals as goal

pub returns-in-Ok-clause-added : goal.returns-in-Ok-clause-added
returns-in-Ok-clause-added c =
    let hir = c.in-Ok.parsed.hir in
    let names = map (option_map string_bytes) c.in-Ok.parsed.names.items in
    let read = subst (λ config. Reads config c.args.pattern.now hir names) c.default.ensures
    c.in-Ok.ensures.ok in
    on_ok_weaker c.add.result
    (grind arith)
    c.add.ensures.added

pub returns-in-Ok-clause-refused : goal.returns-in-Ok-clause-refused
returns-in-Ok-clause-refused c = λ res is.
    let hir = c.in-Ok.parsed.hir in
    let names = map (option_map string_bytes) c.in-Ok.parsed.names.items in
    let read = subst (λ config. Reads config c.args.pattern.now hir names) c.default.ensures
    c.in-Ok.ensures.ok in
    IfErr-weaker c.add.result _ _
    (λ error fault. fault_read res c.args.pattern.now (meaning hir) (hir, names, read, refl) error fault)
    (c.add.ensures.refused res is)
