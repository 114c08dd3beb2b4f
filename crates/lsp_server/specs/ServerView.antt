-- What contracts see of the code's server and of the session that it runs.
use Rattle.std.specs.Prelude.{◌≡◌, ℕ, Bool, List, [], Option, false}
use Rattle.lsp_desk.specs.declared.desk.Caller.{Ghosts as CallerGhosts}
use Rattle.lsp_desk.specs.Meaning.{Meaning}
use Rattle.lsp_frame.specs.declared.limits.Limits.{Limits}
use Rattle.lsp_frame.specs.Codec.{Floats, At}
use Rattle.lsp_session.specs.declared.handlers.Handlers.{Ghosts as HandlersGhosts}
use Rattle.lsp_session.specs.declared.session.Session.{Session}
use Rattle.lsp_session.specs.Semantics.{Semantics}
use Rattle.lsp_session.specs.State.{State}
use Rattle.lsp_session.specs.Run.{Picked}
use Rattle.lsp_session.specs.SessionView.{session_view, has_stopped}
use Rattle.lsp_server.specs.declared.server.Server.{Server}
use Rattle.lsp_server.specs.declared.serving.Serving.{Serving}
use Rattle.lsp_server.specs.Course.{Setting, picked}
use Rattle.lsp_server.specs.Serving.{Spot}
use Rattle.lsp_server.specs.Written.{Place, place}

-- ---- the server

abbrev pub server_desk : {D : Type 0} {d : CallerGhosts D} → Server D d → D
server_desk s = s.socket.desk

-- how many calls are polled in a round at most
abbrev pub concurrency : {D : Type 0} {d : CallerGhosts D} → Server D d → ℕ
concurrency s = s.max

-- how many calls that wait let no further request wait
abbrev pub waiting : {D : Type 0} {d : CallerGhosts D} → Server D d → ℕ
waiting s = s.wait

abbrev pub server_limits : {D : Type 0} {d : CallerGhosts D} → Server D d → Limits
server_limits s = s.settings.limits

-- what becomes of floats
abbrev pub server_floats : {D : Type 0} {d : CallerGhosts D} → Server D d → Floats
server_floats s = s.settings.floats

-- whether params that hold nothing are allowed where a method takes none
abbrev pub server_empty_params : {D : Type 0} {d : CallerGhosts D} → Server D d → Bool
server_empty_params s = s.empty_params

-- a server's desk and its settings
pub record SetUp (D : Type 0) : Type 0 where
  pub desk : D
  pub concurrency : ℕ
  pub waiting : ℕ
  pub limits : Limits
  pub floats : Floats
  pub empty_params : Bool

abbrev pub set_up : {D : Type 0} {d : CallerGhosts D} → Server D d → SetUp D
set_up s = record { desk = server_desk s; concurrency = concurrency s; waiting = waiting s; limits = server_limits s; floats = server_floats s; empty_params = server_empty_params s }

-- a server has this desk and these settings
pub record IsSetUp {D : Type 0} {d : CallerGhosts D} (server : Server D d) (so : SetUp D) : Type 0 where
  pub desk : server_desk server ≡ so.desk
  pub concurrency : concurrency server ≡ so.concurrency
  pub waiting : waiting server ≡ so.waiting
  pub limits : server_limits server ≡ so.limits
  pub floats : server_floats server ≡ so.floats
  pub empty_params : server_empty_params server ≡ so.empty_params

-- what the server runs a session with
abbrev pub setting : {H D P : Type 0} {d : CallerGhosts D} → Server D d → H → P → ℕ → Setting H D P
setting server service pick rounds = record { service = service; desk = server_desk server; max = concurrency server; wait = waiting server; rounds = rounds; limits = server_limits server; floats = server_floats server; empty_params = server_empty_params server; pick = pick }

-- ---- the session

-- where serving stands with the code's session
abbrev pub standing : {H D C T P : Type 0} {h : HandlersGhosts H D C T} {d : CallerGhosts D} → (semantics : Semantics H C T) → Meaning D → Session H D C T h d → P → Option (List ℕ)
    → Place (Picked (State H semantics.Call semantics.Task) P) D
standing semantics m session p taken = place (session_view semantics m session) p taken

-- the same with its codec
abbrev pub spot : {H D C T P : Type 0} {h : HandlersGhosts H D C T} {d : CallerGhosts D} → (semantics : Semantics H C T) → Meaning D → Session H D C T h d → P → At → ℕ
    → Spot (Picked (State H semantics.Call semantics.Task) P) D
spot semantics m session p codec rounds =
    let view = session_view semantics m session in
    record { state = picked view p; desk = view.desk; out = view.out; stopped = has_stopped session; codec = codec; rounds = rounds }

-- the same, as a codec and its session have it
abbrev pub see_serving : {H D C T P I : Type 0} {h : HandlersGhosts H D C T} {d : CallerGhosts D} → (semantics : Semantics H C T) → Meaning D → (I → P) → (Serving I × Session H D C T h d)
    → Spot (Picked (State H semantics.Call semantics.Task) P) D
see_serving semantics m state s = spot semantics m s.1 (state s.0.pick.now) s.0.codec.now s.0.rounds

-- a session between two steps: it goes on, and what it put out was taken
pub record IsReady {H D C T : Type 0} {h : HandlersGhosts H D C T} {d : CallerGhosts D} (semantics : Semantics H C T) (m : Meaning D) (session : Session H D C T h d) : Type 0 where
  pub running : has_stopped session ≡ false
  pub taken : (session_view semantics m session).out ≡ []
