use Rattle.std.specs.Str.{chars}
use Rattle.charmoves.specs.Automata.{rules_of}
use Rattle.charmoves.proofs.Paths.{accepted_among}
use Rattle.charmoves.proofs.moves.Moves.accepts.Goals as goal

pub returns : goal.returns
returns c =
    let told = c.is_accepting.ensures.accepting in
    let whole =
    accepted_among (rules_of c.args.self.now) (chars c.args.text.now) c.in_ok-states.states
    c.in_ok-states.ensures.after in
    record { path = (λ h. whole.0 (told.0 h), λ h. told.1 (whole.1 h)) }
