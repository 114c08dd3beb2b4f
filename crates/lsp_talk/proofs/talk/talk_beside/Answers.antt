-- What the callers' thread takes along may go to it, and what they hand back may come back.
use denote.Param.Send.{sendable}
use Rattle.std.proofs.Crossing as std
use Rattle.lsp_shared.proofs.Crossing as shared
use Rattle.lsp_callers.proofs.Crossing as callers
use Rattle.lsp_callers.proofs.caller.Plan.TheSendSync as plan
use Rattle.lsp_talk.proofs.talk.talk_beside.Goals as goal

pub join-requires-send-F : goal.join-requires-send-F
join-requires-send-F g c κs within = search (sendable, std.crosses, shared.crosses, callers.crosses, plan.the_sync) depth 60

pub join-requires-send-A : goal.join-requires-send-A
join-requires-send-A g c κs within = search (sendable, std.crosses, callers.crosses) depth 60
