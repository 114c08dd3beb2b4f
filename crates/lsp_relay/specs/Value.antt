-- The JSON value of a message: an object, whose members stand in the order of their names.
use Rattle.std.specs.Prelude.{◌≡◌, ⊤, List, ℕ, codes, FitsSigned, Option, Some, None, option_map, Result, Ok, Err}
use Rattle.std.specs.Int.{w64}
use Rattle.serde_json.specs.Data.{Data, Members, no_members, number, string, object, put}
use Rattle.serde_json.specs.Find.{of_integer}
use Rattle.lsp_rpc.specs.Message.{ErrorData, MessageData, response, request, message, code_number, id_data}
use Rattle.lsp_rpc.specs.Back.{IdFits, MayFit, IsRegular}

-- the members, with this one where it is there
abbrev pub put_some : List ℕ → Option Data → Members → Members
put_some name None ms = ms
put_some name (Some d) ms = put name d ms

abbrev pub error_value : ErrorData → Data
error_value e =
    object (put (codes "code") (number (of_integer (code_number e.code)))
    (put (codes "message") (string e.message) (put_some (codes "data") e.payload no_members)))

abbrev pub put_body : Result Data ErrorData → Members → Members
put_body (Ok v) ms = put (codes "result") v ms
put_body (Err e) ms = put (codes "error") (error_value e) ms

abbrev pub version : Members
version = put (codes "jsonrpc") (string (codes "2.0")) no_members

abbrev pub message_value : MessageData → Data
message_value (response r) = object (put_body r.body (put (codes "id") (id_data r.id) version))
message_value (request r) =
    object (put_some (codes "params") r.params (put_some (codes "id") (option_map id_data r.id)
    (put (codes "method") (string r.method) version)))

-- ---- the value of a message is read as that message

abbrev pub BodyFits : Result Data ErrorData → Type 0
BodyFits (Ok v) = ⊤
BodyFits (Err e) = FitsSigned w64 (code_number e.code)

-- ids and codes are integers of 64 bits
abbrev pub MessageFits : MessageData → Type 0
MessageFits (response r) = IdFits r.id × BodyFits r.body
MessageFits (request r) = MayFit r.id

abbrev pub ValuesRead : Type 0
ValuesRead = (m : MessageData) → MessageFits m → IsRegular m → message (message_value m) ≡ Some m
