use Rattle.std.proofs.Common.{[]}
use Rattle.line_program.proofs.Conversations.{answered_as, stopped_as}
use Rattle.btree_range_map.specs.Holding.{box_items, level_count}
use Rattle.rangerun.specs.Conversation.{kept_as}
use Rattle.rangerun.proofs.Runs.{answers_runs}
use Rattle.rangerun.proofs.Served.{conversation_served}
use Rattle.rangerun.proofs.serve.serve_keys.Goals as goal

pub returns-clause-answered : goal.returns-clause-answered
returns-clause-answered g c = λ ended.
    answered_as _ _ _ _ _ (λ bytes text.
    conversation_served g.K.MaybeBounded.order g.K.NumberKey.as_number g.K.Json.shape
    g.K.Json.reads g.K.Json.is_read (λ program. kept_as (box_items program.map) (level_count program.map)) c.new.ensures)
    (c.serve.ensures.answered ended)

pub returns-clause-run : goal.returns-clause-run
returns-clause-run g c = λ ended.
    answered_as _ _ _ _ _ (λ bytes text.
    answers_runs g.K.MaybeBounded.order g.K.NumberKey.as_number g.K.Json.shape g.K.Json.reads
    g.K.Json.is_read g.met.K.PartialEnum.lawful bytes text [])
    (returns-clause-answered g c ended)

pub returns-clause-unread : goal.returns-clause-unread
returns-clause-unread g c = λ failed.
    stopped_as _ _ _ _ _ _ _ (λ bytes text rest.
    conversation_served g.K.MaybeBounded.order g.K.NumberKey.as_number g.K.Json.shape
    g.K.Json.reads g.K.Json.is_read (λ program. kept_as (box_items program.map) (level_count program.map)) c.new.ensures)
    (c.serve.ensures.unread failed)
