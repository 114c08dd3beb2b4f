-- Messages as plain data, the message that a JSON value is, and the text of a message.
use Rattle.std.specs.Prelude.{ℕ, ℤ, pos, negsuc, List, [], ◌++◌, Bool, true, false, ◌||◌, ◌&&◌, ◌==◌, Option, Some, None, Result, Ok, Err, option_map, option_and_then, codes, bytes_eq, if◌then◌else◌}
use Rattle.std.specs.Fmt.{signed_decimal, debug_str}
use Rattle.serde_json.specs.Data.{Data, unsigned, negative, null, number, string, object, Members, no_members, member}
use Rattle.serde_json.specs.Find.{get, as_str, as_number, as_i64}
use Rattle.serde_json.specs.Written.{has_float, compact_text}
use Rattle.lsp_rpc.specs.declared.code.ErrorCode.{ErrorCode}
use Rattle.lsp_rpc.specs.declared.code.ErrorCode.TheVariants.{ParseError, InvalidRequest, MethodNotFound, InvalidParams, InternalError, RequestCancelled, ContentModified, ServerError}

-- ---- codes

-- the code of a number; each named one has its own
abbrev pub below_zero_code : ℕ → ErrorCode
below_zero_code n =
    if n == 32699 then ParseError
    else (if n == 32599 then InvalidRequest
    else (if n == 32600 then MethodNotFound
    else (if n == 32601 then InvalidParams
    else (if n == 32602 then InternalError
    else (if n == 32799 then RequestCancelled
    else (if n == 32800 then ContentModified
    else ServerError (negsuc n)))))))

abbrev pub code_of : ℤ → ErrorCode
code_of (pos n) = ServerError (pos n)
code_of (negsuc n) = below_zero_code n

abbrev pub code_number : ErrorCode → ℤ
code_number ParseError = negsuc 32699
code_number InvalidRequest = negsuc 32599
code_number MethodNotFound = negsuc 32600
code_number InvalidParams = negsuc 32601
code_number InternalError = negsuc 32602
code_number RequestCancelled = negsuc 32799
code_number ContentModified = negsuc 32800
code_number (ServerError n) = n

-- what a code means, in words
abbrev pub description_of : ErrorCode → List ℕ
description_of ParseError = codes "Parse error"
description_of InvalidRequest = codes "Invalid request"
description_of MethodNotFound = codes "Method not found"
description_of InvalidParams = codes "Invalid params"
description_of InternalError = codes "Internal error"
description_of RequestCancelled = codes "Canceled"
description_of ContentModified = codes "Content modified"
description_of (ServerError n) = codes "Server error"

-- ---- plain data

pub data IdData : Type 0 where
  number_id : ℤ → IdData
  text_id : List ℕ → IdData
  null_id : IdData

pub record ErrorData : Type 0 where
  pub code : ErrorCode
  pub message : List ℕ
  pub payload : Option Data

pub record RequestData : Type 0 where
  pub method : List ℕ
  pub params : Option Data
  pub id : Option IdData

pub record ResponseData : Type 0 where
  pub id : IdData
  pub body : Result Data ErrorData

pub data MessageData : Type 0 where
  response : ResponseData → MessageData
  request : RequestData → MessageData

-- the error that says this and holds nothing more
abbrev pub error_saying : ErrorCode → List ℕ → ErrorData
error_saying c m = record { code = c; message = m; payload = None }

-- the error that says what its code means
abbrev pub error_with_code : ErrorCode → ErrorData
error_with_code c = error_saying c (description_of c)

-- the error of a request that came before `initialize`
abbrev pub not_initialized_error : ErrorData
not_initialized_error = error_saying (ServerError (negsuc 32001)) (codes "Server not initialized")

-- ---- what a value is read as

-- the value is this string
abbrev pub is_text : List ℕ → Option Data → Bool
is_text t (Some (string s)) = bytes_eq s t
is_text t other = false

-- the object says that it is JSON-RPC 2.0
abbrev pub has_version : Data → Bool
has_version v = is_text (codes "2.0") (get (codes "jsonrpc") v)

-- an id is an integer of 64 bits, a string or null
abbrev pub id_of : Data → Option IdData
id_of null = Some null_id
id_of (number n) = option_map number_id (as_i64 n)
id_of (string s) = Some (text_id s)
id_of other = None

-- null reads as absent
abbrev pub unless_null : Option Data → Option Data
unless_null (Some null) = None
unless_null other = other

abbrev pub is_error_name : List ℕ → Bool
is_error_name name = bytes_eq name (codes "code") || bytes_eq name (codes "message") || bytes_eq name (codes "data")

-- no member has another name
abbrev pub has_error_names : Members → Bool
has_error_names no_members = true
has_error_names (member k d ms) = is_error_name k && has_error_names ms

abbrev pub has_no_other : Data → Bool
has_no_other (object ms) = has_error_names ms
has_no_other other = false

-- the error that these parts make
abbrev pub error_with : Option ℤ → Option (List ℕ) → Option Data → Option ErrorData
error_with None m d = None
error_with (Some n) None d = None
error_with (Some n) (Some m) d = Some (record { code = code_of n; message = m; payload = unless_null d })

abbrev pub error_of : Data → Option ErrorData
error_of e =
    if has_no_other e
    then error_with (option_and_then as_i64 (option_and_then as_number (get (codes "code") e))) (option_and_then as_str (get (codes "message") e)) (get (codes "data") e)
    else None

-- `result` where it is there, and otherwise `error`
abbrev pub body_with : Option Data → Option Data → Option (Result Data ErrorData)
body_with (Some r) e = Some (Ok r)
body_with None e = option_map Err (option_and_then error_of e)

abbrev pub response_with : Option IdData → Option (Result Data ErrorData) → Option MessageData
response_with None b = None
response_with (Some i) None = None
response_with (Some i) (Some b) = Some (response (record { id = i; body = b }))

abbrev pub response_of : Data → Option MessageData
response_of v = response_with (option_and_then id_of (get (codes "id") v)) (body_with (get (codes "result") v) (get (codes "error") v))

-- an absent method is the empty string
abbrev pub method_of : Option Data → Option (List ℕ)
method_of None = Some []
method_of (Some d) = as_str d

-- an absent id is none, and one of another kind is refused
abbrev pub request_id_of : Option Data → Option (Option IdData)
request_id_of None = Some None
request_id_of (Some d) = option_map Some (id_of d)

abbrev pub request_with : Option (List ℕ) → Option Data → Option (Option IdData) → Option MessageData
request_with None p i = None
request_with (Some m) p None = None
request_with (Some m) p (Some i) = Some (request (record { method = m; params = p; id = i }))

abbrev pub request_of : Data → Option MessageData
request_of v = request_with (method_of (get (codes "method") v)) (get (codes "params") v) (request_id_of (get (codes "id") v))

abbrev pub or_else : Option MessageData → Option MessageData → Option MessageData
or_else (Some m) o = Some m
or_else None o = o

-- first tried as a response, then as a request
abbrev pub message : Data → Option MessageData
message v = if has_version v then or_else (response_of v) (request_of v) else None

-- what is read: a message, with no float anywhere in the value
abbrev pub clean_message : Data → Option MessageData
clean_message v = if has_float v then None else message v

-- tried as a request alone
abbrev pub plain_request : Data → Option MessageData
plain_request v = if has_version v then request_of v else None

-- tried as a response alone
abbrev pub plain_response : Data → Option MessageData
plain_response v = if has_version v then response_of v else None

-- what is read of one form alone, with no float anywhere in the value
abbrev pub clean_request : Data → Option MessageData
clean_request v = if has_float v then None else plain_request v

abbrev pub clean_response : Data → Option MessageData
clean_response v = if has_float v then None else plain_response v

-- ---- what a message is written as

abbrev pub id_data : IdData → Data
id_data (number_id (pos n)) = number (unsigned n)
id_data (number_id (negsuc n)) = number (negative (negsuc n))
id_data (text_id s) = string s
id_data null_id = null

-- a member after others
abbrev pub next_member : List ℕ → Option Data → List ℕ
next_member name None = []
next_member name (Some d) = name ++ compact_text d

abbrev pub error_text : ErrorData → List ℕ
error_text e =
    codes "{\"code\":" ++ signed_decimal (code_number e.code)
    ++ codes ",\"message\":" ++ compact_text (string e.message)
    ++ next_member (codes ",\"data\":") e.payload ++ codes "}"

abbrev pub body_text : Result Data ErrorData → List ℕ
body_text (Ok r) = codes ",\"result\":" ++ compact_text r
body_text (Err e) = codes ",\"error\":" ++ error_text e

abbrev pub message_text : MessageData → List ℕ
message_text (response r) =
    codes "{\"jsonrpc\":\"2.0\"" ++ body_text r.body ++ codes ",\"id\":" ++ compact_text (id_data r.id) ++ codes "}"
message_text (request r) =
    codes "{\"jsonrpc\":\"2.0\",\"method\":" ++ compact_text (string r.method)
    ++ next_member (codes ",\"params\":") r.params ++ next_member (codes ",\"id\":") (option_map id_data r.id) ++ codes "}"

-- ---- what is shown of an error and of an id

abbrev pub error_line : ErrorData → List ℕ
error_line e = description_of e.code ++ codes ": " ++ e.message

-- a string in the debug form of Rust, which is stated for ASCII alone
abbrev pub id_line : IdData → Option (List ℕ)
id_line (number_id n) = Some (signed_decimal n)
id_line (text_id s) = debug_str s
id_line null_id = Some (codes "null")

-- ---- a message that holds a float

abbrev pub may_have_float : Option Data → Bool
may_have_float None = false
may_have_float (Some d) = has_float d

abbrev pub body_has_float : Result Data ErrorData → Bool
body_has_float (Ok r) = has_float r
body_has_float (Err e) = may_have_float e.payload

abbrev pub message_has_float : MessageData → Bool
message_has_float (response r) = body_has_float r.body
message_has_float (request r) = may_have_float r.params
