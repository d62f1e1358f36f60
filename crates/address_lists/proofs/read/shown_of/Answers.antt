use Rattle.std.proofs.Common.{List, ℕ, Bor}
use Rattle.std.proofs.lemmas.Option.{IfSome_then}
use Rattle.address_text.specs.Starts.{OpensComment}
use Rattle.address_lists.proofs.Shown.{bad_shows, comment_shows}
use Rattle.address_lists.proofs.read.shown_of.Goals as goal

pub returns-then-is_bad_start-clause-shown : goal.returns-then-is_bad_start-clause-shown
returns-then-is_bad_start-clause-shown c =
    bad_shows c.args.start.now (c.is_bad_start.ensures.some c.if-is_bad_start.true)
    (c.is_bad_start.ensures.plain c.if-is_bad_start.true)
    (c.is_bad_start.ensures.fault c.if-is_bad_start.true)
    (c.is_bad_start.ensures.bad c.if-is_bad_start.true)

pub returns-clause-shown : goal.returns-clause-shown
returns-clause-shown c =
    IfSome_then _ c.commented_start.ensures.comment
    (λ (text : Bor (List ℕ)) (opens : OpensComment text.now). comment_shows text.now opens)
