use Rattle.std.proofs.Common.{◌≡◌, refl, length, Some, take_all, arith}
use Rattle.std.specs.List.{slice_get}
use Rattle.std.proofs.lemmas.List.{length-map}
use Rattle.std.proofs.lemmas.Option.{slice_get_read}
use Rattle.tokens.specs.Heads.{mode_names, texts_of}
use Rattle.tokens.proofs.Lists.{map_at, take_item, zip_as, zip_more}
use Rattle.tokens.proofs.ModeNames.{added_more}
use Rattle.tokens.proofs.heads.numbers_of.Goals as goal

pub loop-at-preserved : goal.loop-at-preserved
loop-at-preserved c =
    let was = c.loop-at.invariant in
    let new = c.in_ok-number.ensures in
    let items = c.in_ok-called.called.items in
    let called = texts_of items in
    let at = c.loop-at.at in
    let name = c.index.result.now in
    let there : slice_get called at ≡ Some name.now =
    map_at (λ text. text.now) items at name
    (slice_get_read items (length items) at name refl (omega arith) c.index.ensures) in
    record {
      numbers = rw (take_item called at name.now there, c.in_ok-push_copy.ensures.pushed)
          (zip_more _ _ _ name.now c.in_ok-number.number
          (zip_as _ _ _ _ (λ other number stands. new.kept number other stands) was.numbers)
          new.number);
      kept = λ i other stands. new.kept i other (was.kept i other stands);
      added = added_more called (mode_names c.args.line.now) at name.now c.in_ok-called.ensures there
          _ _ _ was.added new.added;
      few = new.few;
    }

pub returns-in_err-number-clause-added : goal.returns-in_err-number-clause-added
returns-in_err-number-clause-added c =
    let items = c.in_ok-called.called.items in
    let name = c.index.result.now in
    let there =
    map_at (λ text. text.now) items c.loop-at.at name
    (slice_get_read items (length items) c.loop-at.at name refl (omega arith) c.index.ensures) in
    added_more (texts_of items) (mode_names c.args.line.now) c.loop-at.at name.now
    c.in_ok-called.ensures there _ _ _ c.loop-at.invariant.added c.in_err-number.ensures.added

pub returns-in_err-push_copy-clause-added : goal.returns-in_err-push_copy-clause-added
returns-in_err-push_copy-clause-added c =
    let items = c.in_ok-called.called.items in
    let name = c.index.result.now in
    let there =
    map_at (λ text. text.now) items c.loop-at.at name
    (slice_get_read items (length items) c.loop-at.at name refl (omega arith) c.index.ensures) in
    added_more (texts_of items) (mode_names c.args.line.now) c.loop-at.at name.now
    c.in_ok-called.ensures there _ _ _ c.loop-at.invariant.added c.in_ok-number.ensures.added

pub returns-clause-numbers : goal.returns-clause-numbers
returns-clause-numbers c =
    let items = c.in_ok-called.called.items in
    let count = length-map items (λ text. text.now) in
    rw (take_all c.loop-at.at (texts_of items) (omega (arith, count)), c.in_ok-called.ensures)
    at c.loop-at.invariant.numbers
