use Rattle.line_program.proofs.Conversations.{answered_as, stopped_as}
use Rattle.rangecalc.proofs.Served.{conversation_served}
use Rattle.rangecalc.specs.Conversation.{stored_in}
use Rattle.rangecalc.proofs.serve.serve_keys.Goals as goal

pub returns-clause-answered : goal.returns-clause-answered
returns-clause-answered g c = λ ended.
    answered_as _ _ _ _ _ (λ bytes text.
    conversation_served g.K.MaybeBounded.order (λ program. stored_in program.maps)
    c.no_maps.ensures)
    (c.serve.ensures.answered ended)

pub returns-clause-unread : goal.returns-clause-unread
returns-clause-unread g c = λ failed.
    stopped_as _ _ _ _ _ _ _ (λ bytes text rest.
    conversation_served g.K.MaybeBounded.order (λ program. stored_in program.maps)
    c.no_maps.ensures)
    (c.serve.ensures.unread failed)
