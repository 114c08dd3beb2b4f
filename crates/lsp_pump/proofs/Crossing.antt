-- A reading may go to another thread, as a set for `search`.
use denote.RattleType.{RattleType}
use denote.Param.Send.{IsSend, sendable}
use Rattle.std.proofs.Crossing as std
use Rattle.std.proofs.MapsCrossing as maps
use Rattle.serde_json.proofs.value.Value.TheLaws.TheKnot as value
use Rattle.serde_json.specs.contracts.value.Value as Value
use Rattle.serde_json.proofs.number.Number.TheSendSync as number
use Rattle.lsp_rpc.proofs.id.Id.TheSendSync as id
use Rattle.lsp_rpc.proofs.code.ErrorCode.TheSendSync as code
use Rattle.lsp_rpc.specs.contracts.request.Request as Request
use Rattle.lsp_rpc.specs.contracts.response.Response as Response
use Rattle.lsp_rpc.specs.contracts.message.Message as Message
use Rattle.lsp_session.specs.contracts.item.Item as Item
use Rattle.lsp_frame.specs.contracts.codec.LanguageServerCodec as Codec
use Rattle.bytes.proofs.unique.BytesMut.TheSendSync as bytes
use Rattle.rtrb.proofs.end.End.TheSendSync as end
use Rattle.lsp_pump.specs.contracts.job.Reading as Reading
use Rattle.lsp_pump.proofs.job.Ended.TheSendSync as ended
use Rattle.lsp_pump.proofs.signal.Signal.TheSendSync as signal

value_send : IsSend Value.the_row
value_send = search (sendable, std.crosses, maps.crosses, value.send-Value, number.the_field_send) depth 60

request_send : IsSend Request.the_row
request_send = search (sendable, std.crosses, value_send, id.the_send) depth 60

request_field_send : IsSend (Request.the_field).row
request_field_send = search (sendable, std.crosses, value_send, id.the_send) depth 60

response_field_send : IsSend (Response.the_field).row
response_field_send = search (sendable, std.crosses, value_send, id.the_field_send, code.the_field_send) depth 60

pub message_field_send : IsSend (Message.the_field).row
message_field_send = search (sendable, request_field_send, response_field_send) depth 40

pub item_field_send : IsSend (Item.the_field).row
item_field_send = search (sendable, message_field_send, code.the_field_send) depth 40

pub item_send : IsSend Item.the_row
item_send = search (sendable, item_field_send)

pub codec_send : IsSend Codec.the_row
codec_send = search (sendable, std.crosses, bytes.the_send) depth 60 fits 20000

pub reading_send : (I : RattleType) → IsSend I → IsSend (Reading.the_row I)
reading_send I is = search (sendable, std.crosses, item_send, codec_send, end.the_send, signal.the_send, signal.the_sync, ended.the_field_send) depth 60

pub ruleset crosses = (item_field_send, item_send, codec_send, reading_send)
