use Rattle.std.proofs.Common.{refl, length}
use Rattle.std.proofs.lemmas.Option.{slice_get_read}
use Rattle.lexing_modes.specs.declared.modes.Mode.{Mode}
use Rattle.lexing_modes.proofs.ModeSteps.{all_same, insert_either, kept_else, on_any_err, scanners_kept, set_here, still_known}
use Rattle.lexing_modes.proofs.modes.Modes.set_change.Goals as goal

pub invariant_of-self-clause-known : goal.invariant_of-self-clause-known
invariant_of-self-clause-known g c =
    let modes = c.args.self.now.modes.items in
    let entry = c.index_mut.result.now in
    still_known modes c.args.mode entry
    (record { scanner = entry.scanner; changes = c.insert.new.self })
    (slice_get_read modes (length modes) c.args.mode entry refl c.in_ok-check.ensures.known
    c.index_mut.ensures.value)
    c.args.change
    (insert_either c.insert.result entry.changes c.insert.new.self c.args.rule c.args.change
    c.insert.ensures.updates c.insert.ensures.err)
    c.args.self.now.known c.in_ok-check_target.ensures.known

pub returns-in_err-insert-clause-scanners : goal.returns-in_err-insert-clause-scanners
returns-in_err-insert-clause-scanners g c =
    let modes = c.args.self.now.modes.items in
    let entry = c.index_mut.result.now in
    scanners_kept modes c.args.mode entry
    (record { scanner = entry.scanner; changes = c.insert.new.self })
    (slice_get_read modes (length modes) c.args.mode entry refl c.in_ok-check.ensures.known
    c.index_mut.ensures.value)
    refl

pub returns-in_err-insert-clause-kept : goal.returns-in_err-insert-clause-kept
returns-in_err-insert-clause-kept g c =
    let modes = c.args.self.now.modes.items in
    let entry = c.index_mut.result.now in
    on_any_err c.from_residual-in_err-insert.result _
    (all_same modes c.args.mode entry
    (record { scanner = entry.scanner; changes = c.insert.new.self })
    (slice_get_read modes (length modes) c.args.mode entry refl c.in_ok-check.ensures.known
    c.index_mut.ensures.value)
    c.in_err-insert.ensures.err)

pub returns-clause-set : goal.returns-clause-set
returns-clause-set g c =
    let modes = c.args.self.now.modes.items in
    let entry = c.index_mut.result.now in
    let after : Mode g.row.S.Denot = record { scanner = entry.scanner; changes = c.insert.new.self } in
    let stands =
    slice_get_read modes (length modes) c.args.mode entry refl c.in_ok-check.ensures.known
    c.index_mut.ensures.value in
    record {
      changed = set_here modes c.args.mode entry after stands c.args.rule c.args.change
          c.in_ok-insert.ensures.updates;
      others = kept_else modes c.args.mode entry after stands c.args.rule c.args.change
          c.in_ok-insert.ensures.updates;
    }

pub returns-clause-scanners : goal.returns-clause-scanners
returns-clause-scanners g c =
    let modes = c.args.self.now.modes.items in
    let entry = c.index_mut.result.now in
    scanners_kept modes c.args.mode entry
    (record { scanner = entry.scanner; changes = c.insert.new.self })
    (slice_get_read modes (length modes) c.args.mode entry refl c.in_ok-check.ensures.known
    c.index_mut.ensures.value)
    refl
