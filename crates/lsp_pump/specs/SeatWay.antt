-- How the steps of a session are made from a seat, and what is seen of it.
use Rattle.std.specs.Prelude.{ℕ, List, Option, is_some}
use Rattle.lsp_desk.specs.declared.desk.Caller.{Ghosts as CallerGhosts}
use Rattle.lsp_desk.specs.Meaning.{Meaning}
use Rattle.lsp_session.specs.declared.handlers.Handlers.{Ghosts as HandlersGhosts}
use Rattle.lsp_session.specs.declared.session.Session.{Session}
use Rattle.lsp_session.specs.Run.{Order, Picked, Step}
use Rattle.lsp_session.specs.Semantics.{Semantics}
use Rattle.lsp_session.specs.SessionView.{session_view}
use Rattle.lsp_session.specs.State.{State}
use Rattle.lsp_server.specs.ServerView.{standing, IsReady}
use Rattle.lsp_pump.specs.declared.steps.Seat.{Seat}
use Rattle.lsp_pump.specs.Steps.{Way, IsUnexited}

-- which sink, session and pick they are
abbrev pub Names : Type 0
Names = (ℕ × ℕ) × ℕ

abbrev pub seat_way : {H D C T O P Q : Type 0} {h : HandlersGhosts H D C T} {d : CallerGhosts D} → (semantics : Semantics H C T) → Meaning D → Order P → (Q → P) → (O → Option (List ℕ)) → (O → Option ℕ) → (O → ℕ)
    → Way (Seat O (Session H D C T h d) Q) (Picked (State H semantics.Call semantics.Task) P) D Names
seat_way semantics m order state taken flushed faults = record {
  step = λ n. Step semantics order n;
  meaning = m;
  table = λ s. semantics.find s.session.service;
  place = λ x. standing semantics m x.held.now.session (state x.pick.now) (taken x.sink.now);
  flushed = λ x. flushed x.sink.now;
  faults = λ x. faults x.sink.now;
  beside = λ x. ((x.sink.ghost_name, x.held.ghost_name), x.pick.ghost_name);
  is_ready = λ x. IsReady semantics m x.held.now.session;
  is_unexited = λ x. IsUnexited semantics m x.held.now.session;
  has_exited = λ x. is_some (session_view semantics m x.held.now.session).state.exited;
}
