-- The state of a proxy between editors and one server, and what it makes of each message: the rows
-- of the table in docs/DEFINITIONS.md, "The proxy", in its order.
use Rattle.std.specs.Prelude.{◌≡◌, ◌<◌, length, IsTrue, ℕ, ◌+◌, pos, List, [], ◌∷◌, ◌++◌, map, Bool, true, false, not, ◌||◌, ◌&&◌, ◌==◌, Option, Some, None, option_and_then, Result, Ok, Err, bytes_eq, codes, nat_lt, slice_get, slice_set, replicate, unwrap_or, if◌then◌else◌}
use Rattle.std.specs.List.{filter}
use Rattle.serde_json.specs.Data.{Data, unsigned, null, number, object, no_members, member}
use Rattle.lsp_rpc.specs.declared.code.ErrorCode.TheVariants.{InvalidRequest, InternalError}
use Rattle.lsp_rpc.specs.Message.{IdData, number_id, ErrorData, RequestData, ResponseData, MessageData, response, request, error_with_code}
use Rattle.lsp_rpc.specs.Ids.{same_id}
use Rattle.lsp_rpc.specs.Cancel.{cancelled_id}
use Rattle.lsp_proxy.specs.declared.side.Side.{Side}
use Rattle.lsp_proxy.specs.declared.side.Side.TheVariants.{Server, Editor}
use Rattle.lsp_proxy.specs.declared.side.Presence.{Presence}
use Rattle.lsp_proxy.specs.declared.side.Presence.TheVariants.{Here, Down, Gone}
use Rattle.lsp_proxy.specs.Entries.{AskerData, Entry, asker_at, place_of, without_entry}

-- ---- the state

-- what became of `initialize`: it wasn't passed on, its response is awaited under a drawn id by
-- these askers, or it was answered with this result
pub data Opening : Type 0 where
  unopened : Opening
  awaited : ℕ → List AskerData → Opening
  opened : Data → Opening

pub record ProxyState : Type 0 where
  -- the next id to be drawn
  pub next : ℕ
  -- the editors' requests that the server hasn't answered
  pub asked : List Entry
  -- the server's requests that an editor hasn't answered
  pub requested : List Entry
  pub opening : Opening
  -- the id of the proxy's own `shutdown`, while its response is awaited
  pub closing : Option ℕ
  -- whether `initialized` was passed on
  pub announced : Bool
  pub editors : List Presence

abbrev pub Sent : Type 0
Sent = List (Side × MessageData)

abbrev pub Outcome : Type 0
Outcome = ProxyState × Sent

-- ids are drawn below this one
abbrev pub last_id : ℕ
last_id = 9223372036854775807

-- ids that a cancel can name
abbrev pub cancel_limit : ℕ
cancel_limit = 2147483648

abbrev pub is_gone : Presence → Bool
is_gone Gone = true
is_gone p = false

-- the editors that aren't gone, in order, counted from k
abbrev pub here_from : ℕ → List Presence → List ℕ
here_from k [] = []
here_from k (p ∷ ps) = if is_gone p then here_from (k + 1) ps else k ∷ here_from (k + 1) ps

abbrev pub first_editor : List ℕ → Option ℕ
first_editor [] = None
first_editor (k ∷ ks) = Some k

-- the lowest editor that isn't gone
abbrev pub lowest : List Presence → Option ℕ
lowest ps = first_editor (here_from 0 ps)

-- where an editor stands; one that isn't known is gone
abbrev pub presence_in : List Presence → ℕ → Presence
presence_in ps k = unwrap_or (slice_get ps k) Gone

abbrev pub presence : ℕ → ProxyState → Presence
presence k s = presence_in s.editors k

-- editor k is one of the editors, and isn't gone
pub record IsPresent (k : ℕ) (s : ProxyState) : Type 0 where
  pub known : k < length s.editors
  pub here : is_gone (presence k s) ≡ false

-- every entry is of that editor
abbrev pub is_editor : Option ℕ → ℕ → Bool
is_editor None k = false
is_editor (Some m) k = m == k

abbrev pub are_of : Option ℕ → List Entry → Bool
are_of o [] = true
are_of o (e ∷ es) = is_editor o e.asker.editor && are_of o es

abbrev pub AreOf : Option ℕ → List Entry → Type 0
AreOf o es = IsTrue (are_of o es)

abbrev pub opening_state : ℕ → ProxyState
opening_state editors = record {
  next = 0;
  asked = [];
  requested = [];
  opening = unopened;
  closing = None;
  announced = false;
  editors = replicate editors Here;
}

-- ---- messages of the proxy's own

abbrev pub drawn : ℕ → IdData
drawn n = number_id (pos n)

abbrev pub response_to : IdData → Result Data ErrorData → MessageData
response_to i body = response (record { id = i; body = body })

abbrev pub invalid : Result Data ErrorData
invalid = Err (error_with_code InvalidRequest)

abbrev pub internal : Result Data ErrorData
internal = Err (error_with_code InternalError)

-- the method and the params of a request
abbrev pub bare : RequestData → RequestData
bare r = record { method = r.method; params = r.params; id = None }

-- the request as it is passed on under a drawn id
abbrev pub passed_as : ℕ → RequestData → MessageData
passed_as n r = request (record { method = r.method; params = r.params; id = Some (drawn n) })

abbrev pub shutdown_request : ℕ → MessageData
shutdown_request n = request (record { method = codes "shutdown"; params = None; id = Some (drawn n) })

abbrev pub exit_note : MessageData
exit_note = request (record { method = codes "exit"; params = None; id = None })

abbrev pub cancel_note : ℕ → MessageData
cancel_note n = request (record { method = codes "$/cancelRequest"; params = Some (object (member (codes "id") (number (unsigned n)) no_members)); id = None })

-- the n that a response answers, where its id is one that could be drawn
abbrev pub drawn_of : IdData → Option ℕ
drawn_of (number_id (pos n)) = Some n
drawn_of other = None

-- ---- what editor k sends

unfoldable pub begin_initialize : ℕ → RequestData → IdData → ProxyState → Outcome
begin_initialize k r i s =
    if nat_lt s.next last_id
    then (record s { next = s.next + 1; opening = awaited s.next (record { editor = k; id = i } ∷ []) }, (Server, passed_as s.next r) ∷ [])
    else (s, (Editor k, response_to i internal) ∷ [])

abbrev pub with_waiting : AskerData → Opening → Opening
with_waiting a (awaited n askers) = awaited n (askers ++ a ∷ [])
with_waiting a other = other

abbrev pub initialize_at : Opening → ℕ → RequestData → IdData → ProxyState → Outcome
initialize_at unopened k r i s = begin_initialize k r i s
initialize_at (awaited n askers) k r i s = (record s { opening = with_waiting (record { editor = k; id = i }) (awaited n askers) }, [])
initialize_at (opened v) k r i s = (s, (Editor k, response_to i (Ok v)) ∷ [])

unfoldable pub initialize : ℕ → RequestData → IdData → ProxyState → Outcome
initialize k r i s = initialize_at s.opening k r i s

unfoldable pub initialized_heard : RequestData → ProxyState → Outcome
initialized_heard r s = if s.announced then (s, []) else (record s { announced = true }, (Server, request r) ∷ [])

unfoldable pub shut_down : ℕ → IdData → ProxyState → Outcome
shut_down k i s = (record s { editors = slice_set s.editors k Down }, (Editor k, response_to i (Ok null)) ∷ [])

-- a new request is passed on under a drawn id
unfoldable pub pass_request : ℕ → RequestData → IdData → ProxyState → Outcome
pass_request k r i s =
    if nat_lt s.next last_id
    then (record s { next = s.next + 1; asked = s.asked ++ record { n = s.next; asker = record { editor = k; id = i } } ∷ [] }, (Server, passed_as s.next r) ∷ [])
    else (s, (Editor k, response_to i internal) ∷ [])

abbrev pub ask_at : Option ℕ → ℕ → RequestData → IdData → ProxyState → Outcome
ask_at (Some n) k r i s = (s, (Editor k, response_to i invalid) ∷ [])
ask_at None k r i s = pass_request k r i s

abbrev pub ask_as : Presence → ℕ → RequestData → IdData → ProxyState → Outcome
ask_as Here k r i s = ask_at (place_of (record { editor = k; id = i }) s.asked) k r i s
ask_as Down k r i s = (s, (Editor k, response_to i invalid) ∷ [])
ask_as Gone k r i s = (s, [])

unfoldable pub ask : ℕ → RequestData → IdData → ProxyState → Outcome
ask k r i s = ask_as (presence k s) k r i s

-- once the last editor is gone, the proxy shuts the server down, or tells it to exit at once where no id is left
abbrev pub last_message : ℕ → MessageData
last_message n = if nat_lt n last_id then shutdown_request n else exit_note

unfoldable pub closing_drawn : ProxyState → ProxyState
closing_drawn s = if nat_lt s.next last_id then record s { next = s.next + 1; closing = Some s.next } else s

abbrev pub is_asked_by : ℕ → Entry → Bool
is_asked_by k e = k == e.asker.editor

-- the server's requests of that editor are answered, and leave
abbrev pub refused : Entry → Side × MessageData
refused e = (Server, response_to e.asker.id internal)

abbrev pub answers_internal : ℕ → List Entry → Sent
answers_internal k es = map refused (filter (is_asked_by k) es)

abbrev pub left : ℕ → ProxyState → ProxyState
left k s = record s { editors = slice_set s.editors k Gone; requested = filter (λ e. not (is_asked_by k e)) s.requested }

-- every editor but k is gone, counted from j
abbrev pub are_gone_but : ℕ → ℕ → List Presence → Bool
are_gone_but k j [] = true
are_gone_but k j (p ∷ ps) = ((j == k) || is_gone p) && are_gone_but k (j + 1) ps

unfoldable pub leave : ℕ → ProxyState → Outcome
leave k s =
    if are_gone_but k 0 s.editors
    then (closing_drawn (left k s), answers_internal k s.requested ++ (Server, last_message s.next) ∷ [])
    else (left k s, answers_internal k s.requested)

abbrev pub cancel_passed : Side → Option ℕ → Sent
cancel_passed to None = []
cancel_passed to (Some n) = if nat_lt n cancel_limit then (to, cancel_note n) ∷ [] else []

abbrev pub asked_place : ℕ → Option IdData → ProxyState → Option ℕ
asked_place k None s = None
asked_place k (Some i) s = place_of (record { editor = k; id = i }) s.asked

unfoldable pub cancel_heard : ℕ → RequestData → ProxyState → Outcome
cancel_heard k r s = (s, cancel_passed Server (asked_place k (cancelled_id r.params) s))

abbrev pub note_as : Presence → ℕ → RequestData → ProxyState → Outcome
note_as Here k r s = if bytes_eq r.method (codes "$/cancelRequest") then cancel_heard k r s else (s, (Server, request r) ∷ [])
note_as p k r s = (s, [])

unfoldable pub note : ℕ → RequestData → ProxyState → Outcome
note k r s = note_as (presence k s) k r s

-- a request by its method, and a notification by its method
abbrev pub request_heard : ℕ → RequestData → IdData → ProxyState → Outcome
request_heard k r i s =
    if bytes_eq r.method (codes "initialize") then initialize k r i s
    else (if bytes_eq r.method (codes "shutdown") then shut_down k i s
    else ask k r i s)

abbrev pub notification_heard : ℕ → RequestData → ProxyState → Outcome
notification_heard k r s =
    if bytes_eq r.method (codes "initialize") then (s, [])
    else (if bytes_eq r.method (codes "initialized") then initialized_heard r s
    else (if bytes_eq r.method (codes "shutdown") then (s, [])
    else (if bytes_eq r.method (codes "exit") then leave k s
    else note k r s)))

abbrev pub call_heard : ℕ → RequestData → Option IdData → ProxyState → Outcome
call_heard k r None s = notification_heard k (bare r) s
call_heard k r (Some i) s = request_heard k (bare r) i s

abbrev pub reply_to : ℕ → ResponseData → ℕ → Option AskerData → ProxyState → Outcome
reply_to k r n None s = (s, [])
reply_to k r n (Some a) s =
    if k == a.editor
    then (record s { requested = without_entry n s.requested }, (Server, response_to a.id r.body) ∷ [])
    else (s, [])

abbrev pub replied_under : ℕ → ResponseData → Option ℕ → ProxyState → Outcome
replied_under k r None s = (s, [])
replied_under k r (Some n) s = reply_to k r n (asker_at n s.requested) s

unfoldable pub reply_heard : ℕ → ResponseData → ProxyState → Outcome
reply_heard k r s = replied_under k r (drawn_of r.id) s

abbrev pub heard : ℕ → MessageData → ProxyState → Outcome
heard k (response r) s = reply_heard k r s
heard k (request r) s = call_heard k r r.id s

-- what editor k sends, and what is made of it
unfoldable pub from_editor : ℕ → MessageData → ProxyState → Outcome
from_editor k m s = if is_gone (presence k s) then (s, []) else heard k m s

-- ---- what the server sends

abbrev pub opening_after : Result Data ErrorData → Opening
opening_after (Ok v) = opened v
opening_after (Err e) = unopened

-- the asker isn't gone
abbrev pub is_here_in : List Presence → AskerData → Bool
is_here_in ps a = not (is_gone (presence_in ps a.editor))

abbrev pub is_here : ProxyState → AskerData → Bool
is_here s a = is_here_in s.editors a

abbrev pub answered_to : Result Data ErrorData → AskerData → Side × MessageData
answered_to body a = (Editor a.editor, response_to a.id body)

abbrev pub answer_to : ℕ → Result Data ErrorData → Option AskerData → ProxyState → Outcome
answer_to n body None s = (s, [])
answer_to n body (Some a) s =
    (record s { asked = without_entry n s.asked }, if is_here s a then answered_to body a ∷ [] else [])

unfoldable pub answer_heard : ℕ → Result Data ErrorData → ProxyState → Outcome
answer_heard n body s = answer_to n body (asker_at n s.asked) s

-- the response to `initialize` goes to all that wait for it under n
abbrev pub waiting_sent : Opening → ℕ → Result Data ErrorData → List Presence → Option Sent
waiting_sent (awaited m askers) n body ps = if n == m then Some (map (answered_to body) (filter (is_here_in ps) askers)) else None
waiting_sent other n body ps = None

abbrev pub by_waiting : Option Sent → ℕ → Result Data ErrorData → ProxyState → Outcome
by_waiting (Some sent) n body s = (record s { opening = opening_after body }, sent)
by_waiting None n body s = answer_heard n body s

unfoldable pub initialize_answered : ℕ → Result Data ErrorData → ProxyState → Outcome
initialize_answered n body s = by_waiting (waiting_sent s.opening n body s.editors) n body s

abbrev pub is_closing : Option ℕ → ℕ → Bool
is_closing None n = false
is_closing (Some m) n = n == m

abbrev pub response_under : Option ℕ → Result Data ErrorData → ProxyState → Outcome
response_under None body s = (s, [])
response_under (Some n) body s =
    if is_closing s.closing n
    then (record s { closing = None }, (Server, exit_note) ∷ [])
    else initialize_answered n body s

unfoldable pub server_response : ResponseData → ProxyState → Outcome
server_response r s = response_under (drawn_of r.id) r.body s

unfoldable pub pass_to : ℕ → RequestData → IdData → ProxyState → Outcome
pass_to k r i s =
    (record s { next = s.next + 1; requested = s.requested ++ record { n = s.next; asker = record { editor = k; id = i } } ∷ [] }, (Editor k, passed_as s.next r) ∷ [])

abbrev pub request_to : Option ℕ → RequestData → IdData → ProxyState → Outcome
request_to None r i s = (s, (Server, response_to i internal) ∷ [])
request_to (Some k) r i s = if nat_lt s.next last_id then pass_to k r i s else (s, (Server, response_to i internal) ∷ [])

-- to the lowest editor that isn't gone
unfoldable pub server_request : RequestData → IdData → ProxyState → Outcome
server_request r i s = request_to (lowest s.editors) r i s

-- the first entry of that id
abbrev pub first_requested : IdData → List Entry → Option Entry
first_requested i [] = None
first_requested i (e ∷ es) = if same_id i e.asker.id then Some e else first_requested i es

abbrev pub cancel_entry : Option Entry → Sent
cancel_entry None = []
cancel_entry (Some e) = cancel_passed (Editor e.asker.editor) (Some e.n)

unfoldable pub server_cancel : RequestData → ProxyState → Outcome
server_cancel r s = (s, cancel_entry (option_and_then (λ i. first_requested i s.requested) (cancelled_id r.params)))

-- to every editor that isn't gone
unfoldable pub broadcast : RequestData → ProxyState → Outcome
broadcast r s = (s, map (λ k. (Editor k, request r)) (here_from 0 s.editors))

abbrev pub server_called : RequestData → Option IdData → ProxyState → Outcome
server_called r (Some i) s = server_request (bare r) i s
server_called r None s = if bytes_eq r.method (codes "$/cancelRequest") then server_cancel (bare r) s else broadcast (bare r) s

abbrev pub server_heard : MessageData → ProxyState → Outcome
server_heard (response r) s = server_response r s
server_heard (request r) s = server_called r r.id s

-- what the server sends, and what is made of it
unfoldable pub from_server : MessageData → ProxyState → Outcome
from_server m s = server_heard m s
