-- The plain data that the code's values stand for.
use Rattle.std.specs.Prelude.{Result, Ok, Err, option_map, string_bytes}
use Rattle.serde_json.specs.View.{view}
use Rattle.serde_json.specs.declared.value.Value.{Value}
use Rattle.lsp_rpc.specs.declared.id.Id.{Id}
use Rattle.lsp_rpc.specs.declared.id.Id.TheVariants as ids
use Rattle.lsp_rpc.specs.declared.error.Error.{Error}
use Rattle.lsp_rpc.specs.declared.request.Request.{Request}
use Rattle.lsp_rpc.specs.declared.request.RequestBuilder.{RequestBuilder}
use Rattle.lsp_rpc.specs.declared.response.Response.{Response}
use Rattle.lsp_rpc.specs.declared.message.Message.{Message}
use Rattle.lsp_rpc.specs.declared.message.Message.TheVariants as messages
use Rattle.lsp_rpc.specs.Message.{IdData, number_id, text_id, null_id, ErrorData, RequestData, ResponseData, MessageData, response, request}
use Rattle.serde_json.specs.Data.{Data}

abbrev pub show_id : Id → IdData
show_id (ids.Number n) = number_id n
show_id (ids.String s) = text_id (string_bytes s)
show_id ids.Null = null_id

abbrev pub show_error : Error → ErrorData
show_error e = record { code = e.code; message = string_bytes e.message; payload = option_map view e.payload }

abbrev pub show_request : Request → RequestData
show_request r = record { method = string_bytes r.method; params = option_map view r.params; id = option_map show_id r.id }

-- the request that is built so far
abbrev pub show_builder : RequestBuilder → RequestData
show_builder b = record { method = string_bytes b.method; params = option_map view b.params; id = option_map show_id b.id }

abbrev pub show_body : Result Value Error → Result Data ErrorData
show_body (Ok v) = Ok (view v)
show_body (Err e) = Err (show_error e)

abbrev pub show_response : Response → ResponseData
show_response r = record { id = show_id r.id; body = show_body r.body }

abbrev pub show_message : Message → MessageData
show_message (messages.Response r) = response (show_response r)
show_message (messages.Request r) = request (show_request r)
