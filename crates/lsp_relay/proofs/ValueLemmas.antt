-- The value of a message is read as that message.
use Rattle.std.proofs.Common.{◌≡◌, ◌≢◌, ℕ, List, Option, Some, None, Result, Ok, Err, refl}
use Rattle.std.specs.Prelude.{FitsSigned}
use Rattle.std.specs.Int.{w64}
use Rattle.serde_json.specs.Data.{Data, null, boolean, number, string, array, object}
use Rattle.lsp_rpc.specs.declared.code.ErrorCode.{ErrorCode}
use Rattle.lsp_rpc.specs.Message.{IdData, ErrorData, response, request, message, code_number, code_of, unless_null, error_of}
use Rattle.lsp_rpc.specs.Back.{IdFits, MayFit, IsRegularBody}
use Rattle.lsp_rpc.proofs.Integers.{as_i64-of_integer, id_of-id_data}
use Rattle.lsp_relay.specs.Value.{error_value, message_value, BodyFits, ValuesRead}

request_read : (method : List ℕ) (params : Option Data) (id : Option IdData) → MayFit id
    → message (message_value (request (record { method = method; params = params; id = id }))) ≡ Some (request (record { method = method; params = params; id = id }))
request_read method None None fits = refl
request_read method (Some p) None fits = refl
request_read method None (Some i) fits = rw (id_of-id_data i fits) refl
request_read method (Some p) (Some i) fits = rw (id_of-id_data i fits) refl

some_same : (d : Data) → Some d ≢ Some null → unless_null (Some d) ≡ Some d
some_same null ne = absurd (ne refl)
some_same (boolean b) ne = refl
some_same (number n) ne = refl
some_same (string s) ne = refl
some_same (array ds) ne = refl
some_same (object ms) ne = refl

error_read : (code : ErrorCode) (text : List ℕ) (payload : Option Data) → FitsSigned w64 (code_number code) → payload ≢ Some null → code_of (code_number code) ≡ code
    → error_of (error_value (record { code = code; message = text; payload = payload })) ≡ Some (record { code = code; message = text; payload = payload })
error_read code text None fits some same = rw (as_i64-of_integer (code_number code) fits, same) refl
error_read code text (Some d) fits some same = rw (as_i64-of_integer (code_number code) fits, same, some_same d some) refl

response_read : (id : IdData) (body : Result Data ErrorData) → IdFits id → BodyFits body → IsRegularBody body
    → message (message_value (response (record { id = id; body = body }))) ≡ Some (response (record { id = id; body = body }))
response_read id (Ok v) fits here regular = rw (id_of-id_data id fits) refl
response_read id (Err e) fits here regular = rw (id_of-id_data id fits, error_read e.code e.message e.payload here regular.0 regular.1) refl

pub values_read : ValuesRead
values_read (response r) fits regular = response_read r.id r.body fits.0 fits.1 regular
values_read (request r) fits regular = request_read r.method r.params r.id fits
