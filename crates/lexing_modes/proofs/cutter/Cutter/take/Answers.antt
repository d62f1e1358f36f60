use Rattle.std.proofs.Common.{◌≡◌, refl, sym, arith, length, []}
use Rattle.std.proofs.lemmas.Str.{IsCharBoundary-start}
use Rattle.lexing_modes.specs.States.{state_of}
use Rattle.lexing_modes.proofs.ModeSteps.{scanner_at}
use Rattle.lexing_modes.proofs.Pieces.{fails_from, settled_by, stuck_from, takes_from}
use Rattle.lexing_modes.proofs.cutter.Cutter.take.Goals as goal

pub behind_one-requires-clause-boundary : goal.behind_one-requires-clause-boundary
behind_one-requires-clause-boundary c = IsCharBoundary-start c.args.piece.now c.utf8.piece

pub returns-in_default-found-clause-taken : goal.returns-in_default-found-clause-taken
returns-in_default-found-clause-taken c more follows =
    let cutter = c.args.self.now in
    let modes = cutter.modes.now in
    let piece = c.args.piece.now in
    let entry = c.index.result.now in
    let before = state_of cutter.cursor in
    let here : cutter.cursor.place ≡ 0 = omega (arith, cutter.state.boundary.0) in
    let of =
    scanner_at modes.modes.items cutter.cursor.mode entry cutter.state.known c.index.ensures in
    let none = rw c.in_default-found.is at c.in-Some.ensures.longest in
    stuck_from modes piece more c.utf8.piece before here
    (settled_by modes piece more cutter.cursor.mode entry.scanner c.args.is_last of follows
    c.in-Some.ensures.settled) entry.scanner c.behind_one.result of c.requires.some none
    c.behind_one.ensures.boundary c.behind_one.ensures.one before (refl, refl)

pub take-taken-requires-clause-state : goal.take-taken-requires-clause-state
take-taken-requires-clause-state c =
    let cutter = c.args.self.now in
    let here : cutter.cursor.place ≡ 0 = omega (arith, cutter.state.boundary.0) in
    record {
      boundary = rw here (IsCharBoundary-start c.args.piece.now c.utf8.piece);
      known = cutter.state.known;
      below = cutter.state.below;
    }

pub take-taken-requires-clause-token : goal.take-taken-requires-clause-token
take-taken-requires-clause-token c =
    let cutter = c.args.self.now in
    let entry = c.index.result.now in
    let here : cutter.cursor.place ≡ 0 = omega (arith, cutter.state.boundary.0) in
    let of =
    scanner_at cutter.modes.now.modes.items cutter.cursor.mode entry cutter.state.known
    c.index.ensures in
    let is = rw c.in-Some-found.is at c.in-Some.ensures.longest in
    (entry.scanner, of, (c.in-Some-found.found.len, rw here is, sym here, omega (arith, here)))

pub returns-in-Err-clause-taken : goal.returns-in-Err-clause-taken
returns-in-Err-clause-taken c more follows =
    let cutter = c.args.self.now in
    let modes = cutter.modes.now in
    let piece = c.args.piece.now in
    let entry = c.index.result.now in
    let here : cutter.cursor.place ≡ 0 = omega (arith, cutter.state.boundary.0) in
    let of =
    scanner_at modes.modes.items cutter.cursor.mode entry cutter.state.known c.index.ensures in
    fails_from modes piece more c.utf8.piece (state_of cutter.cursor) here
    (settled_by modes piece more cutter.cursor.mode entry.scanner c.args.is_last of follows
    c.in-Some.ensures.settled) c.in-Err.error (state_of c.take-taken.new.cursor)
    c.take-taken.ensures.state.boundary c.in-Err.ensures.taken

pub returns-then-is_left_out-clause-taken : goal.returns-then-is_left_out-clause-taken
returns-then-is_left_out-clause-taken c more follows =
    let cutter = c.args.self.now in
    let modes = cutter.modes.now in
    let piece = c.args.piece.now in
    let entry = c.index.result.now in
    let here : cutter.cursor.place ≡ 0 = omega (arith, cutter.state.boundary.0) in
    let of =
    scanner_at modes.modes.items cutter.cursor.mode entry cutter.state.known c.index.ensures in (
      takes_from modes piece more c.utf8.piece (state_of cutter.cursor) here
          (settled_by modes piece more cutter.cursor.mode entry.scanner c.args.is_last of follows
          c.in-Some.ensures.settled) c.in-Ok.found (state_of c.take-taken.new.cursor)
          c.in-Ok.ensures.taken,
      c.if-is_left_out.ensures.0 refl,
    )

pub returns-else-is_left_out-clause-taken : goal.returns-else-is_left_out-clause-taken
returns-else-is_left_out-clause-taken c more follows =
    let cutter = c.args.self.now in
    let modes = cutter.modes.now in
    let piece = c.args.piece.now in
    let entry = c.index.result.now in
    let here : cutter.cursor.place ≡ 0 = omega (arith, cutter.state.boundary.0) in
    let of =
    scanner_at modes.modes.items cutter.cursor.mode entry cutter.state.known c.index.ensures in (
      takes_from modes piece more c.utf8.piece (state_of cutter.cursor) here
          (settled_by modes piece more cutter.cursor.mode entry.scanner c.args.is_last of follows
          c.in-Some.ensures.settled) c.in-Ok.found (state_of c.take-taken.new.cursor)
          c.in-Ok.ensures.taken,
      λ left. let is = c.if-is_left_out.ensures.1 left in absurd cc,
    )
