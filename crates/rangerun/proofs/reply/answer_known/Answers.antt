use Rattle.std.proofs.Common.{rules}
use Rattle.rangerun.proofs.reply.answer_known.Goals as goal

pub returns-in-None : goal.returns-in-None
returns-in-None g c = search rules

pub returns-in-Some-Show : goal.returns-in-Some-Show
returns-in-Some-Show g c = search rules

pub returns-in-Some-Gaps : goal.returns-in-Some-Gaps
returns-in-Some-Gaps g c = search rules

pub returns-in-Some-Len : goal.returns-in-Some-Len
returns-in-Some-Len g c = search rules

pub returns-in-Some-Levels : goal.returns-in-Some-Levels
returns-in-Some-Levels g c = search rules

pub returns-in-Some-Run : goal.returns-in-Some-Run
returns-in-Some-Run g c = search rules

pub returns-in-Some-Save : goal.returns-in-Some-Save
returns-in-Some-Save g c = search rules
