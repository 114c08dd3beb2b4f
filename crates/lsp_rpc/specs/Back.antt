-- The value that the text of a message is, and which messages are read back from it.
use Rattle.std.specs.Prelude.{◌≡◌, ◌≢◌, ◌≤◌, ℕ, List, Option, Some, None, Result, Ok, Err, option_map, option_and_then, codes, ⊤, FitsSigned}
use Rattle.std.specs.Int.{w64}
use Rattle.json.specs.Tree.{HasNumbers}
use Rattle.serde_json.specs.Data.{Data, null, number, string, object, Members, no_members, member, depth}
use Rattle.serde_json.specs.Find.{of_integer}
use Rattle.serde_json.specs.Read.{read, of_json, max_depth}
use Rattle.serde_json.specs.Written.{outline}
use Rattle.lsp_rpc.specs.Message.{code_number, code_of, IdData, number_id, text_id, null_id, ErrorData, MessageData, response, request, id_data, clean_message}

-- the members, with this one in front where it is there
abbrev pub with_member : List ℕ → Option Data → Members → Members
with_member k None ms = ms
with_member k (Some d) ms = member k d ms

abbrev pub error_data : ErrorData → Data
error_data e =
    object (member (codes "code") (number (of_integer (code_number e.code)))
    (member (codes "message") (string e.message) (with_member (codes "data") e.payload no_members)))

abbrev pub body_members : Result Data ErrorData → Members → Members
body_members (Ok v) ms = member (codes "result") v ms
body_members (Err e) ms = member (codes "error") (error_data e) ms

-- the value that the text of a message is, with its members in the order of the text
abbrev pub message_data : MessageData → Data
message_data (response r) =
    object (member (codes "jsonrpc") (string (codes "2.0")) (body_members r.body (member (codes "id") (id_data r.id) no_members)))
message_data (request r) =
    object (member (codes "jsonrpc") (string (codes "2.0")) (member (codes "method") (string r.method)
    (with_member (codes "params") r.params (with_member (codes "id") (option_map id_data r.id) no_members))))

-- A payload that is null reads as none, and a code reads as the variant that has its number.
abbrev pub IsRegularBody : Result Data ErrorData → Type 0
IsRegularBody (Ok v) = ⊤
IsRegularBody (Err e) = (e.payload ≢ Some null) × (code_of (code_number e.code) ≡ e.code)

abbrev pub IsRegular : MessageData → Type 0
IsRegular (response r) = IsRegularBody r.body
IsRegular (request r) = ⊤

-- the message can be read back from its text
pub record IsReadable (m : MessageData) : Type 0 where
  pub nests : depth (message_data m) ≤ max_depth
  pub regular : IsRegular m

-- the text is read as this message
abbrev pub ReadsAs : List ℕ → MessageData → Type 0
ReadsAs text m = option_and_then clean_message (read text) ≡ Some m

-- ---- for private clauses: the values inside a message read back

-- what is written of the value is read as that value
abbrev pub ReadsBack : Data → Type 0
ReadsBack d = depth d ≤ max_depth → HasNumbers (outline d) × (of_json (outline d) ≡ Some d)

abbrev pub MayReadBack : Option Data → Type 0
MayReadBack None = ⊤
MayReadBack (Some d) = ReadsBack d

abbrev pub IdFits : IdData → Type 0
IdFits (number_id n) = FitsSigned w64 n
IdFits (text_id s) = ⊤
IdFits null_id = ⊤

abbrev pub MayFit : Option IdData → Type 0
MayFit None = ⊤
MayFit (Some i) = IdFits i

abbrev pub ErrorReadsBack : ErrorData → Type 0
ErrorReadsBack e = FitsSigned w64 (code_number e.code) × MayReadBack e.payload

abbrev pub BodyReadsBack : Result Data ErrorData → Type 0
BodyReadsBack (Ok v) = ReadsBack v
BodyReadsBack (Err e) = ErrorReadsBack e
