-- What is written of a message is read as the same message.
use Rattle.std.proofs.Common.{◌≡◌, ℕ, ◌≤◌, List, false, Option, Some, None, Result, Ok, Err, refl, ap, ◌∙◌, arith}
use Rattle.std.specs.Prelude.{codes, FitsSigned}
use Rattle.std.specs.Int.{w64}
use Rattle.lsp_rpc.specs.declared.code.ErrorCode.{ErrorCode}
use Rattle.std.specs.Option.{option_map, option_and_then}
use Rattle.json.specs.Tree.{HasNumbers}
use Rattle.serde_json.specs.Data.{Data, null, boolean, number, string, array, object, Members, no_members, member, depth}
use Rattle.serde_json.specs.Find.{of_integer}
use Rattle.serde_json.specs.Read.{read, of_json, max_depth}
use Rattle.serde_json.specs.Written.{has_float, compact_text, outline}
use Rattle.lsp_rpc.specs.Message.{code_number, code_of, IdData, ErrorData, RequestData, ResponseData, MessageData, response, request, id_data, unless_null, error_of, message_text, clean_message, message_has_float, may_have_float, body_has_float}
use Rattle.lsp_rpc.specs.Back.{with_member, error_data, body_members, message_data, IsReadable, ReadsAs, IsRegularBody, ReadsBack, MayReadBack, IdFits, MayFit, BodyReadsBack}
use Rattle.lsp_rpc.proofs.Envelope.{message_text-message_data}
use Rattle.lsp_rpc.proofs.Integers.{ReadsBack-of_integer, as_i64-of_integer, has_float-of_integer, ReadsBack-id_data, id_of-id_data, has_float-id_data}
use Rattle.lsp_rpc.proofs.Outlines.{read-compact_text}

-- ---- requests

abbrev request_members : List ℕ → Option Data → Option Data → Members
request_members m p i =
    member (codes "jsonrpc") (string (codes "2.0")) (member (codes "method") (string m)
    (with_member (codes "params") p (with_member (codes "id") i no_members)))

-- the same in the order of the keys
abbrev request_sorted : List ℕ → Option Data → Option Data → Members
request_sorted m p i =
    with_member (codes "id") i (member (codes "jsonrpc") (string (codes "2.0")) (member (codes "method") (string m) (with_member (codes "params") p no_members)))

request_back : (m : List ℕ) (p i : Option Data) → MayReadBack p → MayReadBack i → depth (object (request_members m p i)) ≤ max_depth
    → HasNumbers (outline (object (request_members m p i))) × (of_json (outline (object (request_members m p i))) ≡ Some (object (request_sorted m p i)))
request_back m None None hp hi shallow = ((tt, (tt, tt)), refl)
request_back m None (Some i) hp hi shallow =
    let back = hi (omega arith) in
    ((tt, (tt, (back.0, tt))), rw back.1 refl)
request_back m (Some p) None hp hi shallow =
    let back = hp (omega arith) in
    ((tt, (tt, (back.0, tt))), rw back.1 refl)
request_back m (Some p) (Some i) hp hi shallow =
    let first = hp (omega arith) in
    let last = hi (omega arith) in
    ((tt, (tt, (first.0, (last.0, tt)))), rw (first.1, last.1) refl)

request_found : (m : List ℕ) (p : Option Data) (i : Option IdData) → MayFit i → may_have_float p ≡ false
    → clean_message (object (request_sorted m p (option_map id_data i))) ≡ Some (request (record { method = m; params = p; id = i }))
request_found m None None hi clean = refl
request_found m (Some p) None hi clean = rw clean refl
request_found m None (Some i) hi clean = rw (has_float-id_data i, id_of-id_data i hi) refl
request_found m (Some p) (Some i) hi clean = rw (has_float-id_data i, clean, id_of-id_data i hi) refl

-- ---- errors

abbrev error_sorted : ErrorData → Data
error_sorted e =
    object (member (codes "code") (number (of_integer (code_number e.code))) (with_member (codes "data") e.payload (member (codes "message") (string e.message) no_members)))

error_back : (c : ErrorCode) (m : List ℕ) (p : Option Data) → FitsSigned w64 (code_number c) → MayReadBack p → depth (error_data (record { code = c; message = m; payload = p })) ≤ max_depth
    → HasNumbers (outline (error_data (record { code = c; message = m; payload = p }))) × (of_json (outline (error_data (record { code = c; message = m; payload = p }))) ≡ Some (error_sorted (record { code = c; message = m; payload = p })))
error_back c m None hc hp shallow =
    let code = ReadsBack-of_integer (code_number c) hc (omega arith) in
    ((code.0, (tt, tt)), rw code.1 refl)
error_back c m (Some d) hc hp shallow =
    let code = ReadsBack-of_integer (code_number c) hc (omega arith) in
    let back = hp (omega arith) in
    ((code.0, (tt, (back.0, tt))), rw (code.1, back.1) refl)

unless_null-same : (o : Option Data) → (o ≡ Some null → ⊥) → unless_null o ≡ o
unless_null-same None h = refl
unless_null-same (Some null) h = absurd (h refl)
unless_null-same (Some (boolean b)) h = refl
unless_null-same (Some (number n)) h = refl
unless_null-same (Some (string s)) h = refl
unless_null-same (Some (array ds)) h = refl
unless_null-same (Some (object ms)) h = refl

error_found : (c : ErrorCode) (m : List ℕ) (p : Option Data) → FitsSigned w64 (code_number c) → (p ≡ Some null → ⊥) → code_of (code_number c) ≡ c
    → error_of (error_sorted (record { code = c; message = m; payload = p })) ≡ Some (record { code = c; message = m; payload = p })
error_found c m None hc some same = rw (as_i64-of_integer (code_number c) hc, same) refl
error_found c m (Some d) hc some same = rw (as_i64-of_integer (code_number c) hc, same, unless_null-same (Some d) some) refl

error_clean : (c : ErrorCode) (m : List ℕ) (p : Option Data) → may_have_float p ≡ false → has_float (error_sorted (record { code = c; message = m; payload = p })) ≡ false
error_clean c m None h = rw (has_float-of_integer (code_number c)) refl
error_clean c m (Some d) h = rw (has_float-of_integer (code_number c), h) refl

-- ---- answers

abbrev response_sorted : Result Data ErrorData → Data → Data
response_sorted (Ok v) i = object (member (codes "id") i (member (codes "jsonrpc") (string (codes "2.0")) (member (codes "result") v no_members)))
response_sorted (Err e) i = object (member (codes "error") (error_sorted e) (member (codes "id") i (member (codes "jsonrpc") (string (codes "2.0")) no_members)))

abbrev response_data : Result Data ErrorData → Data → Data
response_data b i = object (member (codes "jsonrpc") (string (codes "2.0")) (body_members b (member (codes "id") i no_members)))

response_back : (b : Result Data ErrorData) (i : Data) → BodyReadsBack b → ReadsBack i → depth (response_data b i) ≤ max_depth
    → HasNumbers (outline (response_data b i)) × (of_json (outline (response_data b i)) ≡ Some (response_sorted b i))
response_back (Ok v) i hb hi shallow =
    let body = hb (omega arith) in
    let id = hi (omega arith) in
    ((tt, (body.0, (id.0, tt))), rw (body.1, id.1) refl)
response_back (Err e) i hb hi shallow =
    let body = error_back e.code e.message e.payload hb.0 hb.1 (omega arith) in
    let id = hi (omega arith) in
    ((tt, (body.0, (id.0, tt))), rw (body.1, id.1) refl)

response_found : (b : Result Data ErrorData) (i : IdData) → BodyReadsBack b → IdFits i → IsRegularBody b → body_has_float b ≡ false
    → clean_message (response_sorted b (id_data i)) ≡ Some (response (record { id = i; body = b }))
response_found (Ok v) i hb hi regular clean = rw (has_float-id_data i, clean, id_of-id_data i hi) refl
response_found (Err e) i hb hi regular clean =
    rw (error_clean e.code e.message e.payload clean, has_float-id_data i, id_of-id_data i hi, error_found e.code e.message e.payload hb.0 regular.0 regular.1) refl

-- ---- messages

found_from : (text : List ℕ) (d sorted : Data) (m : MessageData) → text ≡ compact_text d → HasNumbers (outline d) × (of_json (outline d) ≡ Some sorted) → depth d ≤ max_depth → clean_message sorted ≡ Some m
    → option_and_then clean_message (read text) ≡ Some m
found_from text d sorted m is back shallow found =
    ap (λ t. option_and_then clean_message (read t)) is ∙ ap (option_and_then clean_message) (read-compact_text d back.0 shallow ∙ back.1) ∙ found

MayReadBack-id : (i : Option IdData) → MayFit i → MayReadBack (option_map id_data i)
MayReadBack-id None h = tt
MayReadBack-id (Some i) h = ReadsBack-id_data i h

pub request_read_back : (text : List ℕ) (r : RequestData) → text ≡ message_text (request r) → MayReadBack r.params → MayFit r.id → message_has_float (request r) ≡ false → IsReadable (request r)
    → ReadsAs text (request r)
request_read_back text r is params id clean readable =
    let shallow = readable.nests in
    found_from text (message_data (request r)) (object (request_sorted r.method r.params (option_map id_data r.id))) (request r) (is ∙ message_text-message_data (request r))
    (request_back r.method r.params (option_map id_data r.id) params (MayReadBack-id r.id id) shallow) shallow
    (request_found r.method r.params r.id id clean)

pub response_read_back : (text : List ℕ) (r : ResponseData) → text ≡ message_text (response r) → BodyReadsBack r.body → IdFits r.id → message_has_float (response r) ≡ false
    → IsReadable (response r) → ReadsAs text (response r)
response_read_back text r is body id clean readable =
    let shallow = readable.nests in
    found_from text (message_data (response r)) (response_sorted r.body (id_data r.id)) (response r) (is ∙ message_text-message_data (response r))
    (response_back r.body (id_data r.id) body (ReadsBack-id_data r.id id) shallow) shallow
    (response_found r.body r.id body id readable.regular clean)
