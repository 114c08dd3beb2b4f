-- What each thread takes along may go to it, and what it hands back may come back.
use denote.Param.Send.{sendable}
use Rattle.std.proofs.Crossing as std
use Rattle.lsp_shared.proofs.Crossing.{crosses}
use Rattle.lsp_turns.proofs.seats.Work.TheSendSync as work
use Rattle.lsp_turns.proofs.threads.four_at.Goals as goal

pub join-one-requires-send-F : goal.join-one-requires-send-F
join-one-requires-send-F g c κs within = search (sendable, crosses, work.the_sync) depth 20

pub join-one-requires-send-A : goal.join-one-requires-send-A
join-one-requires-send-A g c κs within = search (sendable, std.crosses, crosses) depth 60
