-- Which of the types of a shared desk may cross threads, as a set for `search`: a seat at rest, the first seat and the replies to calls may go to another thread, and a `&SharedDesk` may be shared.
use denote.Param.Send.{IsSend, IsSync, sendable}
use Rattle.std.proofs.Crossing as std
use Rattle.std.proofs.MapsCrossing as maps
use Rattle.serde_json.proofs.value.Value.TheLaws.TheKnot as value
use Rattle.serde_json.specs.contracts.value.Value as Value
use Rattle.serde_json.proofs.number.Number.TheSendSync as number
use Rattle.lsp_rpc.proofs.id.Id.TheSendSync as id
use Rattle.lsp_rpc.proofs.code.ErrorCode.TheSendSync as code
use Rattle.lsp_rpc.specs.contracts.request.Request as Request
use Rattle.lsp_rpc.specs.contracts.response.Response as Response
use Rattle.lsp_desk.proofs.life.Life.TheSendSync as life
use Rattle.lsp_desk.specs.contracts.call.ClientReply as ClientReply
use Rattle.lsp_desk.specs.contracts.call.ServerReply as ServerReply
use Rattle.lsp_desk.specs.contracts.plain.PlainDesk as PlainDesk
use Rattle.lsp_shared.specs.contracts.view.View as View
use Rattle.lsp_shared.specs.contracts.rested.Rested as Rested
use Rattle.lsp_shared.specs.contracts.desk.SharedDesk as SharedDesk
use Rattle.lsp_shared.specs.contracts.desk.OwnerSeat as OwnerSeat
use Rattle.atomic_table.specs.contracts.shared.Seat as Seat
use Rattle.atomic_table.proofs.shared.Seat.TheSendSync as seat
use Rattle.atomic_table.proofs.shared.Shared.TheSendSync as shared
use Rattle.atomic_table.proofs.send_lease.SendLease.TheSendSync as lease

value_send : IsSend Value.the_row
value_send = search (sendable, std.crosses, maps.crosses, value.send-Value, number.the_field_send) depth 60

pub request_send : IsSend Request.the_row
request_send = search (sendable, std.crosses, value_send, id.the_send) depth 60

pub response_send : IsSend (Response.the_field).row
response_send = search (sendable, std.crosses, value_send, id.the_field_send, code.the_field_send) depth 60

pub client_reply_field_send : IsSend (ClientReply.the_field).row
client_reply_field_send = search (sendable, response_send, id.the_field_send) depth 40

pub client_reply_send : IsSend ClientReply.the_row
client_reply_send = search (sendable, client_reply_field_send)

pub server_reply_field_send : IsSend (ServerReply.the_field).row
server_reply_field_send = search (sendable, std.crosses, request_send, life.the_field_send) depth 40

pub server_reply_send : IsSend ServerReply.the_row
server_reply_send = search (sendable, server_reply_field_send)

desk_send : IsSend PlainDesk.the_row
desk_send = search (sendable, std.crosses, maps.crosses, response_send, request_send, id.the_field_send, life.the_field_send) depth 60 fits 10000

seat_send : IsSend (Seat.the_row PlainDesk.the_row View.the_row)
seat_send = seat.the_send PlainDesk.the_row View.the_row desk_send

pub rested_field_send : IsSend (Rested.the_field).row
rested_field_send = search (sendable, seat_send) depth 20

pub rested_send : IsSend Rested.the_row
rested_send = search (sendable, rested_field_send)

pub owner_seat_send : IsSend OwnerSeat.the_row
owner_seat_send = search (sendable, seat_send) depth 20

pub desk_sync : IsSync SharedDesk.the_row
desk_sync = search (sendable, std.crosses, shared.the_sync, lease.the_sync, desk_send) depth 60

pub ruleset crosses = (client_reply_field_send, client_reply_send, server_reply_field_send, server_reply_send, rested_field_send, rested_send, owner_seat_send, desk_sync)
