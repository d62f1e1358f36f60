use Rattle.std.proofs.Common.{ap, refl}
use Rattle.std.proofs.lemmas.Bool.{false≢true}
use Rattle.range_commands.proofs.Replies.{meets_some, meets_none}
use Rattle.range_commands.proofs.command.answer_counted.Goals as goal

pub returns-in-Err-Connected : goal.returns-in-Err-Connected
returns-in-Err-Connected g c =
    record {
      step =
          let refused = c.in-Err-Connected.ensures in
          let is = c.in-Err-Connected.field-0-is in
          let given = rw is at refused.given in
          rw c.in-InsertDisconnected.is (
            refused.connected.0 (rw is tt),
            ap (λ p. p.0) given,
            ap (λ p. p.1) given,
            refused.refused,
          );
      takes =
          rw c.in-InsertDisconnected.is refl;
    }

pub returns-in-InsertDisconnected : goal.returns-in-InsertDisconnected
returns-in-InsertDisconnected g c =
    record {
      step =
          let refused = c.in-Err-Memory-insert_disconnected.ensures in
          rw c.in-InsertDisconnected.is (
            λ empty. false≢true (refused.empty empty),
            λ near. rw c.in-Err-Memory-insert_disconnected.field-0-is at
                (refused.connected.1 (λ empty. false≢true (refused.empty empty), near)),
            refused.refused,
          );
      takes =
          rw c.in-InsertDisconnected.is refl;
    }

pub returns-in-Ok-clause-takes : goal.returns-in-Ok-clause-takes
returns-in-Ok-clause-takes g c =
    let done = c.in-Ok.ensures in
    rw c.in-Insert.is record {
      at_most = λ unrefused. done.most;
      at_least = done.least;
      none = done.empty_uncounted;
    }

pub returns-in-Ok-remove_counted : goal.returns-in-Ok-remove_counted
returns-in-Ok-remove_counted g c =
    let done = c.in-Ok-remove_counted.ensures in
    record {
      step =
          let items = g.C.Storage.items c.args.map.now in
          rw c.in-Remove.is record {
            unbound = done.unbound;
            canonical = done.canonical;
            few = done.few;
            empty = done.empty_unchanged;
            unmet =
                λ unmet. done.unmet_unchanged
                (meets_none g.K.MaybeBounded.order items c.in-Remove.range unmet);
          };
      takes =
          rw c.in-Remove.is record {
            at_most = λ unrefused. done.most;
            at_least = done.least;
            none = done.empty_uncounted;
          };
    }

pub returns-in-Remove : goal.returns-in-Remove
returns-in-Remove g c =
    let refused = c.in-Err-Memory-remove_counted.ensures in
    record {
      step =
          let items = g.C.Storage.items c.args.map.now in
          rw c.in-Remove.is (
            λ empty. false≢true (refused.empty empty),
            meets_some g.K.MaybeBounded.order items c.in-Remove.range
                (λ apart. false≢true (refused.unmet apart)),
            refused.refused,
          );
      takes =
          rw c.in-Remove.is record {
            at_most = λ done. absurd done;
            at_least = refused.least;
            none = refused.empty_uncounted;
          };
    }
