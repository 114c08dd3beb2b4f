-- What calls that make steps ask of a session, and what they leave of it.
use Rattle.std.specs.Prelude.{◌≡◌, ◌≢◌, ℕ, List, [], Option, None, Result, OnOk, OnErr, IfErr}
use Rattle.lsp_desk.specs.declared.desk.Caller.{Ghosts as CallerGhosts}
use Rattle.lsp_desk.specs.declared.life.Life.TheVariants.{Exited}
use Rattle.lsp_desk.specs.Meaning.{Meaning, Grown}
use Rattle.lsp_session.specs.declared.handlers.Handlers.{Ghosts as HandlersGhosts}
use Rattle.lsp_session.specs.declared.session.Session.{Session}
use Rattle.lsp_session.specs.Item.{ItemData}
use Rattle.lsp_session.specs.Semantics.{Semantics}
use Rattle.lsp_session.specs.State.{State, Effect}
use Rattle.lsp_session.specs.Run.{Order, Picked, Step}
use Rattle.lsp_session.specs.SessionView.{session_view, desk_of, life_of}
use Rattle.lsp_server.specs.declared.step.ServeError.{ServeError}
use Rattle.lsp_server.specs.Errors.{IsBetweenReads, IsInStep, SaysSpent, StaysWhole}
use Rattle.lsp_server.specs.ServerView.{standing, IsReady}
use Rattle.lsp_server.specs.Written.{Ran, RanPart}

-- the step of an item was made, and it put out something
pub record StepPutsOut {H C T P : Type 0} (semantics : Semantics H C T) (order : Order P) (rounds : ℕ) (old : Picked (State H semantics.Call semantics.Task) P) (item : ItemData) (new : Picked (State H semantics.Call semantics.Task) P) : Type 0 where
  pub effect : Effect
  pub step : Step semantics order rounds old item effect new
  pub some : effect.out ≢ []

module _ {H D C T : Type 0} {h : HandlersGhosts H D C T} {d : CallerGhosts D} (semantics : Semantics H C T) (m : Meaning D) where
  -- a session may make a step: it is between two steps, and its life hasn't ended
  pub record MayStep (session : Session H D C T h d) : Type 0 where
    pub ready : IsReady semantics m session
    pub alive : life_of m session ≢ Exited

  -- a session may be served on: it may make a step, and no exit was admitted
  pub record MayServe (session : Session H D C T h d) : Type 0 where
    pub ready : IsReady semantics m session
    pub alive : life_of m session ≢ Exited
    pub unexited : (session_view semantics m session).state.exited ≡ None

  -- a call that makes steps leaves the session between two steps, or answers an error of a step
  pub record LeavesSession {A : Type 0} (new : Session H D C T h d) (result : Result A ServeError) : Type 0 where
    pub ready : OnOk result (IsReady semantics m new)
    -- it says that the desk is spent only where it is
    pub spent : IfErr result (λ e. SaysSpent m (desk_of new) e)
    pub others : IfErr result IsInStep

  -- a call that serves over reads leaves the session between two steps also where it stops between two reads, and there
  -- it may be served on; the desk has grown at any answer
  pub record LeavesServed {A : Type 0} (old new : Session H D C T h d) (result : Result A ServeError) : Type 0 where
    pub ready : StaysWhole result → IsReady semantics m new
    pub between : IfErr result (λ e. IsBetweenReads e → MayServe new)
    pub grown : Grown m (desk_of old) (desk_of new)
    pub desk_spent : IfErr result (λ e. SaysSpent m (desk_of new) e)

module _ {H D C T P : Type 0} {h : HandlersGhosts H D C T} {d : CallerGhosts D} (semantics : Semantics H C T) (m : Meaning D) (order : Order P) (rounds : ℕ) where
  -- what a call leaves that makes the steps of these items: of the session, of the state of its pick, and of the bytes
  -- that its sink took, where they are told
  pub record MadeSteps {A : Type 0} (old : Session H D C T h d) (p : P) (taken : Option (List ℕ)) (items : List ItemData) (new : Session H D C T h d) (p_after : P) (taken_after : Option (List ℕ)) (result : Result A ServeError) : Type 0 where
    -- the steps were made, and exactly the frames of what they put out were written
    pub ok : OnOk result (Ran (Step semantics order rounds) m (standing semantics m old p taken) items (standing semantics m new p_after taken_after))
    -- at an error nothing was written, or what begins the frames of the steps
    pub part : OnErr result (RanPart (Step semantics order rounds) m (standing semantics m old p taken) items (desk_of new) taken_after)
    pub grown : OnErr result (Grown m (desk_of old) (desk_of new))
    pub session : LeavesSession semantics m new result
