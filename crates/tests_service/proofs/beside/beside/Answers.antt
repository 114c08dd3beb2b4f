-- What the client's thread takes along may go to it.
use denote.Param.Send.{sendable}
use Rattle.std.proofs.Crossing as std
use Rattle.lsp_shared.proofs.Crossing.{crosses}
use Rattle.lsp_callers.proofs.caller.Plan.TheSendSync as plan
use Rattle.tests_service.proofs.beside.beside.Goals as goal

pub join-told-requires-send-F : goal.join-told-requires-send-F
join-told-requires-send-F g c κs within = search (sendable, std.crosses, crosses, plan.the_sync) depth 60
