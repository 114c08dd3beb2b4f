-- Callers and a tally at rest may go to another thread, as a set for `search`.
use denote.Param.Send.{IsSend, sendable}
use Rattle.std.proofs.Crossing as std
use Rattle.lsp_shared.proofs.Crossing as shared
use Rattle.lsp_callers.specs.contracts.caller.Idle as Idle
use Rattle.lsp_callers.specs.contracts.caller.Heard as Heard
use Rattle.lsp_callers.specs.contracts.tallied.RestedTally as RestedTally

pub idle_field_send : IsSend (Idle.the_field).row
idle_field_send = search (sendable, shared.crosses) depth 20

pub idle_send : IsSend Idle.the_row
idle_send = search (sendable, idle_field_send)

pub heard_field_send : IsSend (Heard.the_field).row
heard_field_send = search (sendable, std.crosses, shared.crosses) depth 40

pub heard_send : IsSend Heard.the_row
heard_send = search (sendable, heard_field_send)

pub tally_field_send : IsSend (RestedTally.the_field).row
tally_field_send = search (sendable, shared.crosses) depth 20

pub tally_send : IsSend RestedTally.the_row
tally_send = search (sendable, tally_field_send)

pub ruleset crosses = (idle_field_send, idle_send, heard_field_send, heard_send, tally_field_send, tally_send)
