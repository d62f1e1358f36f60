use Rattle.std.proofs.Common.{[], arith, false, get_or}
use Rattle.std.proofs.lemmas.List.{length_push}
use Rattle.std.proofs.lemmas.Option.{slice_get-get_or}
use Rattle.lexer_handles.specs.declared.rules.Rule.{Rule}
use Rattle.lexer_handles.proofs.Reading.{read_more}
use Rattle.lexer_handles.proofs.rules.texts_of.Goals as goal

abbrev no_rule : Rule
no_rule = record {
  name = record { ref_ptr = (0, 0); now = [] };
  pattern = record { ref_ptr = (0, 0); now = [] };
  is_skipped = false;
}

pub returns-in_default-clause-stop : goal.returns-in_default-clause-stop
returns-in_default-clause-stop c = λ short. (
  get_or c.args.rules.now c.loop-at.at no_rule,
  grind (arith, slice_get-get_or c.args.rules.now c.loop-at.at no_rule c.loop-at-test.true),
  grind (arith, c.in_default.ensures),
)

pub loop-at-preserved : goal.loop-at-preserved
loop-at-preserved c =
    grind (
      arith,
      read_more c.args.rules.now c.loop-at.found.items c.loop-at.at no_rule c.in-Some.rule c.loop-at-test.true,
      length_push c.loop-at.found.items c.in-Some.rule,
    )
