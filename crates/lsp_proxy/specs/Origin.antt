-- Where each response that an editor gets comes from. A history is a list of events, the latest
-- first.
use Rattle.std.specs.Prelude.{◌≡◌, ◌⊎◌, ℕ, ◌==◌, List, [], ◌∷◌, ◌++◌, Bool, true, false, Option, Some, None, Result, Ok, bytes_eq, codes, ⊤}
use Rattle.std.specs.List.{AllByRecursion}
use Rattle.serde_json.specs.Data.{Data, null}
use Rattle.lsp_rpc.specs.Message.{IdData, ErrorData, RequestData, MessageData, response, request}
use Rattle.lsp_proxy.specs.declared.side.Side.{Side}
use Rattle.lsp_proxy.specs.declared.side.Side.TheVariants.{Server, Editor}
use Rattle.lsp_proxy.specs.Proxy.{ProxyState, opening_state, response_to, drawn, drawn_of, bare, passed_as, invalid, internal}
use Rattle.lsp_proxy.specs.Law.{Event, react, is_request_of}

-- the state after a history
abbrev pub state_of : ℕ → List Event → ProxyState
state_of editors [] = opening_state editors
state_of editors (e ∷ h) = (react e (state_of editors h)).0

abbrev pub is_drawn : ℕ → Option ℕ → Bool
is_drawn n None = false
is_drawn n (Some m) = n == m

-- the event is a response of the server under the drawn id n
abbrev pub is_response_under : ℕ → Event → Bool
is_response_under n (Server, response r) = is_drawn n (drawn_of r.id)
is_response_under n other = false

-- editor k's request under the id i was passed on under n, and no response under n has come since
pub record WasPassed (editors : ℕ) (h : List Event) (n k : ℕ) (i : IdData) : Type 0 where
  pub later : List Event
  pub earlier : List Event
  pub call : RequestData
  pub split : h ≡ later ++ (Editor k, request call) ∷ earlier
  pub under : call.id ≡ Some i
  pub passed : (react (Editor k, request call) (state_of editors earlier)).1 ≡ (Server, passed_as n (bare call)) ∷ []
  pub first : AllByRecursion (λ e. is_response_under n e ≡ false) later

-- editor k has sent an `initialize` under the id i
pub record HasInitialized (h : List Event) (k : ℕ) (i : IdData) : Type 0 where
  pub later : List Event
  pub earlier : List Event
  pub call : RequestData
  pub split : h ≡ later ++ (Editor k, request call) ∷ earlier
  pub under : call.id ≡ Some i
  pub method : call.method ≡ codes "initialize"

-- some editor's `initialize` was passed on under n, and no response under n has come since
pub record AwaitsInitialize (editors : ℕ) (h : List Event) (n : ℕ) : Type 0 where
  pub opener : ℕ
  pub id : IdData
  pub passed : WasPassed editors h n opener id
  pub method : passed.call.method ≡ codes "initialize"

-- the events from that `initialize` on
abbrev pub since_initialize : {editors : ℕ} {h : List Event} {n : ℕ} → AwaitsInitialize editors h n → List Event
since_initialize a = a.passed.later ++ (Editor a.opener, request a.passed.call) ∷ []

-- an `initialize` is awaited under n, and from it on editor k has sent one under the id i: that
-- very one, or a later one
pub record SharesInitialize (editors : ℕ) (h : List Event) (n k : ℕ) (i : IdData) : Type 0 where
  pub awaits : AwaitsInitialize editors h n
  pub sent : HasInitialized (since_initialize awaits) k i

-- the server has given this result, in response to an `initialize` that was passed on
pub record HasAnswered (editors : ℕ) (h : List Event) (v : Data) : Type 0 where
  pub later : List Event
  pub earlier : List Event
  pub n : ℕ
  pub split : h ≡ later ++ (Server, response_to (drawn n) (Ok v)) ∷ earlier
  pub awaits : AwaitsInitialize editors earlier n

-- the event is a request or a notification of that method
abbrev pub is_call : List ℕ → Event → Bool
is_call method (side, request r) = bytes_eq r.method method
is_call method (side, response r) = false

-- The proxy's own responses: null to a `shutdown`, a refusal, or, to an `initialize`, a result that
-- the server has given to an `initialize`.
abbrev pub IsOwn : ℕ → List Event → Event → Result Data ErrorData → Type 0
IsOwn editors h e body =
    ((is_call (codes "shutdown") e ≡ true) × (body ≡ Ok null))
    ⊎ ((body ≡ invalid)
    ⊎ ((body ≡ internal)
    ⊎ ((v : Data) × (body ≡ Ok v) × (is_call (codes "initialize") e ≡ true) × HasAnswered editors h v)))

-- A response of the proxy's own comes at the editor's request under its id. Any other is the body
-- of the response that the server gives now: the first to that request of the editor, or the first
-- to an `initialize` in which the editor shares under that id.
abbrev pub Origin : ℕ → List Event → Event → ℕ → IdData → Result Data ErrorData → Type 0
Origin editors h e k i body =
    ((is_request_of k i e ≡ true) × IsOwn editors h e body)
    ⊎ ((n : ℕ) × (e ≡ (Server, response_to (drawn n) body))
    × (WasPassed editors h n k i ⊎ SharesInitialize editors h n k i))

abbrev pub HasOrigin : ℕ → List Event → Event → Side × MessageData → Type 0
HasOrigin editors h e (Editor k, response r) = Origin editors h e k r.id r.body
HasOrigin editors h e other = ⊤
