use Rattle.rangecalc.specs.Replies.{truth_text}
use Rattle.std.proofs.Common.{refl}
use Rattle.std.proofs.lemmas.Result.{on_ok_weaker}
use Rattle.rangecalc.proofs.write.write_reply.Goals as goal

pub returns-in-Stored : goal.returns-in-Stored
returns-in-Stored g c = rw c.in-Stored.is c.write_item.ensures

pub returns-in-Taken : goal.returns-in-Taken
returns-in-Taken g c = rw c.in-Taken.is c.write_taken.ensures

pub returns-in-Truth : goal.returns-in-Truth
returns-in-Truth g c = rw c.in-Truth.is (on_ok_weaker c.write_truth.result
    (λ appended. (_, refl, appended)) c.write_truth.ensures)
