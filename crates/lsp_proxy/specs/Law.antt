-- What a proxy sends over a list of events.
use Rattle.std.specs.Prelude.{IsTrue, ◌≡◌, ◌⊎◌, ℕ, nat_lt, ◌+◌, List, [], ◌∷◌, ◌++◌, Bool, true, false, ◌&&◌, ◌==◌, Option, Some, None, Result, bytes_eq, codes, if◌then◌else◌, ⊤}
use Rattle.std.specs.List.{AllByRecursion}
use Rattle.serde_json.specs.Data.{Data}
use Rattle.lsp_rpc.specs.Message.{IdData, ErrorData, RequestData, MessageData, response, request}
use Rattle.lsp_rpc.specs.Ids.{same_id}
use Rattle.lsp_proxy.specs.declared.side.Side.{Side}
use Rattle.lsp_proxy.specs.declared.side.Side.TheVariants.{Server, Editor}
use Rattle.lsp_proxy.specs.Entries.{AskerData, Entry}
use Rattle.lsp_rpc.specs.Cancel.{cancelled_id}
use Rattle.lsp_proxy.specs.Proxy.{ProxyState, Sent, Outcome, Opening, awaited, from_editor, from_server, response_to, bare, passed_as, cancel_note}

-- a message, and the side that it comes from
abbrev pub Event : Type 0
Event = Side × MessageData

abbrev pub react : Event → ProxyState → Outcome
react (Server, m) s = from_server m s
react (Editor k, m) s = from_editor k m s

-- all that is sent, event after event
abbrev pub sent_over : List Event → ProxyState → Sent
sent_over [] s = []
sent_over (e ∷ es) s = (react e s).1 ++ sent_over es (react e s).0

abbrev pub state_after : List Event → ProxyState → ProxyState
state_after [] s = s
state_after (e ∷ es) s = state_after es (react e s).0

-- ---- the ids of requests

abbrev pub with_some : Option IdData → List IdData → List IdData
with_some None ids = ids
with_some (Some i) ids = i ∷ ids

abbrev pub with_id_of : MessageData → List IdData → List IdData
with_id_of (response r) ids = ids
with_id_of (request r) ids = with_some r.id ids

-- the ids of the requests that are sent, whichever side they go to
abbrev pub request_ids : Sent → List IdData
request_ids [] = []
request_ids (s ∷ ss) = with_id_of s.1 (request_ids ss)

-- no two are equal
abbrev pub AreDistinct : List IdData → Type 0
AreDistinct [] = ⊤
AreDistinct (i ∷ ids) = AllByRecursion (λ j. same_id i j ≡ false) ids × AreDistinct ids

-- ---- responses against requests

abbrev pub one_if : Bool → ℕ
one_if b = if b then 1 else 0

abbrev pub same_side : Side → Side → Bool
same_side Server Server = true
same_side (Editor k) (Editor j) = k == j
same_side a b = false

abbrev pub is_response_at : Side → IdData → Side × MessageData → Bool
is_response_at side i (to, response r) = same_side side to && same_id i r.id
is_response_at side i (to, request r) = false

-- how many responses the side gets under the id
abbrev pub responses_at : Side → IdData → Sent → ℕ
responses_at side i [] = 0
responses_at side i (s ∷ ss) = one_if (is_response_at side i s) + responses_at side i ss

abbrev pub is_same_id : IdData → Option IdData → Bool
is_same_id i None = false
is_same_id i (Some j) = same_id i j

abbrev pub is_request_at : Side → IdData → Event → Bool
is_request_at side i (from, request r) = same_side side from && is_same_id i r.id
is_request_at side i (from, response r) = false

-- how many requests the side sends under the id
abbrev pub requests_at : Side → IdData → List Event → ℕ
requests_at side i [] = 0
requests_at side i (e ∷ es) = one_if (is_request_at side i e) + requests_at side i es

-- how many responses editor k gets under the id
abbrev pub responses_to : ℕ → IdData → Sent → ℕ
responses_to k i ss = responses_at (Editor k) i ss

abbrev pub is_request_of : ℕ → IdData → Event → Bool
is_request_of k i e = is_request_at (Editor k) i e

-- how many requests editor k sends under the id
abbrev pub times_requested : ℕ → IdData → List Event → ℕ
times_requested k i es = requests_at (Editor k) i es

-- ---- who gets what

abbrev pub is_none : Option IdData → Bool
is_none None = true
is_none (Some i) = false

abbrev pub says_exit : RequestData → Bool
says_exit r = is_none r.id && bytes_eq r.method (codes "exit")

-- the event is editor k's `exit`
abbrev pub is_exit_of : ℕ → Event → Bool
is_exit_of k (Editor j, request r) = (k == j) && says_exit r
is_exit_of k other = false

-- editor k is one of so many, and hasn't sent `exit`. A history has the latest event first
abbrev pub is_here_after : ℕ → List Event → ℕ → Bool
is_here_after editors [] k = nat_lt k editors
is_here_after editors (e ∷ h) k = if is_exit_of k e then false else is_here_after editors h k

-- an editor that it goes to is here
abbrev pub GoesToOneHere : ℕ → List Event → Side × MessageData → Type 0
GoesToOneHere editors h (Editor k, m) = IsTrue (is_here_after editors h k)
GoesToOneHere editors h (Server, m) = ⊤

abbrev pub IsAmong : {X : Type 0} → X → List X → Type 0
IsAmong {X} x xs = (earlier : List X) × (later : List X) × (xs ≡ earlier ++ x ∷ later)

-- the asker waits for the response to `initialize` under n
abbrev pub WaitsUnder : ℕ → AskerData → Opening → Type 0
WaitsUnder n a o = (askers : List AskerData) × (o ≡ awaited n askers) × IsAmong a askers

-- the request goes on under the next id, where its asker waits for the response
abbrev pub IsPassedOn : RequestData → AskerData → ProxyState → Outcome → Type 0
IsPassedOn r a s o =
    (o.1 ≡ (Server, passed_as s.next (bare r)) ∷ [])
    × (IsAmong {X = Entry} (record { n = s.next; asker = a }) o.0.asked ⊎ WaitsUnder s.next a o.0.opening)

-- nothing is sent, and its asker waits for the response to an `initialize` that was passed on
abbrev pub RequestWaits : AskerData → Outcome → Type 0
RequestWaits a o = (o.1 ≡ []) × (n : ℕ) × WaitsUnder n a o.0.opening

abbrev pub RequestIsAnswered : AskerData → Outcome → Type 0
RequestIsAnswered a o = (body : Result Data ErrorData) × (o.1 ≡ (Editor a.editor, response_to a.id body) ∷ [])

abbrev pub IsTaken : RequestData → AskerData → ProxyState → Outcome → Type 0
IsTaken r a s o = IsPassedOn r a s o ⊎ (RequestWaits a o ⊎ RequestIsAnswered a o)

-- ---- cancels

-- this holds of all that is sent, and the proxy stays as it was
abbrev pub OnlySends : ProxyState → (Side × MessageData → Type 0) → Outcome → Type 0
OnlySends s P o = AllByRecursion P o.1 × (o.0 ≡ s)

abbrev pub is_cancel : RequestData → Bool
is_cancel r = is_none r.id && bytes_eq r.method (codes "$/cancelRequest")

-- the server is sent the number of an entry of editor k under the id that the cancel names
abbrev pub CancelsAsked : ℕ → RequestData → ProxyState → Side × MessageData → Type 0
CancelsAsked k r s sent =
    (i : IdData) × (n : ℕ) × (cancelled_id r.params ≡ Some i) × (sent ≡ (Server, cancel_note n))
    × IsAmong {X = Entry} (record { n = n; asker = record { editor = k; id = i } }) s.asked

-- an editor is sent the number of an entry of its own under the id that the server's cancel names
abbrev pub CancelsRequested : RequestData → ProxyState → Side × MessageData → Type 0
CancelsRequested r s sent =
    (i : IdData) × (n : ℕ) × (k : ℕ) × (cancelled_id r.params ≡ Some i) × (sent ≡ (Editor k, cancel_note n))
    × IsAmong {X = Entry} (record { n = n; asker = record { editor = k; id = i } }) s.requested
