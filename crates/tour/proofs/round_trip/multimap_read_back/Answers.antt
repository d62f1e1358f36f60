use Rattle.std.proofs.Common.{◌⊎◌, inl, inr}
use Rattle.std.proofs.lemmas.Result.{IfErr-weaker, IfOk-weaker}
use Rattle.tour.proofs.round_trip.multimap_read_back.Goals as goal

pub returns-clause-equal : goal.returns-clause-equal
returns-clause-equal g c =
    let form = rw c.iter-items.ensures.items at c.iter-items.ensures.canonical.stored in
    IfOk-weaker c.multimap_from_json.result _ _ (λ read is.
    c.multimaps_are_read_back.ensures.equal _ _ c.in_ok-written.ensures.values form
    (rw c.in_ok-written.ensures.written at is)) c.multimap_from_json.ensures.read

pub returns-clause-fails : goal.returns-clause-fails
returns-clause-fails g c =
    let form = rw c.iter-items.ensures.items at c.iter-items.ensures.canonical.stored in
    let some = rw c.iter-items.ensures.items at c.iter-items.ensures.nonempty in
    IfErr-weaker c.multimap_from_json.result _ _ (λ e fails. elim fails [
      | inl memory ↦ memory
      | inr fault ↦
          absurd (c.multimaps_are_read_back.ensures.sound _ c.in_ok-written.ensures.values some form e
          (rw c.in_ok-written.ensures.written at fault))
    ]) c.multimap_from_json.ensures.fault
