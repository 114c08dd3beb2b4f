-- The steps of items, with ticks between them.
use Rattle.std.specs.Prelude.{◌≡◌, ◌≢◌, Bool, true, false, ℕ, List, Option, None, Result, Ok, Err, IfOk, IfErr}
use Rattle.std.specs.Result.{result_err}
use Rattle.lsp_desk.specs.declared.desk.Caller.{Ghosts as CallerGhosts}
use Rattle.lsp_desk.specs.declared.life.Life.TheVariants.{Exited}
use Rattle.lsp_desk.specs.Meaning.{Meaning, Grown}
use Rattle.lsp_session.specs.declared.handlers.Handlers.{Ghosts as HandlersGhosts}
use Rattle.lsp_session.specs.declared.session.Session.{Session}
use Rattle.lsp_session.specs.declared.table.Entry.{Entry}
use Rattle.lsp_session.specs.Item.{ItemData}
use Rattle.lsp_session.specs.Run.{has_exit}
use Rattle.lsp_session.specs.Semantics.{Semantics}
use Rattle.lsp_session.specs.SessionView.{session_view, life_of}
use Rattle.lsp_session.specs.State.{Effect}
use Rattle.lsp_server.specs.declared.step.ServeError.{ServeError}
use Rattle.lsp_server.specs.Errors.{IsInStep, SaysSpent}
use Rattle.lsp_server.specs.Leaves.{LeavesFaults, StaysFlushed}
use Rattle.lsp_server.specs.Written.{Place, Ran, RanPart}
use Rattle.lsp_pump.specs.Spaced.{unticked, through_exit}

module _ {S D : Type 0} (step : S → ItemData → Effect → S → Type 0) (m : Meaning D) (find : List ℕ → Option Entry) where
  -- the steps of these items were made, through the first exit, with ticks between them
  pub record StepsMade (a : Place S D) (items : List ItemData) (exits : Bool) (b : Place S D) : Type 0 where
    pub list : List ItemData
    pub spaced : unticked list ≡ unticked (through_exit find items)
    pub ran : Ran step m a list b
    pub is : has_exit find items ≡ exits

  -- what was written begins the frames of such steps
  pub record StepsBegun (a : Place S D) (items : List ItemData) (desk : D) (taken : Option (List ℕ)) : Type 0 where
    pub list : List ItemData
    pub spaced : unticked list ≡ unticked (through_exit find items)
    pub part : RanPart step m a list desk taken

  -- what is answered of them: whether an exit was among them, or an error
  abbrev pub StepsAnswered : Place S D → List ItemData → Result Bool ServeError → Place S D → Type 0
  StepsAnswered a items (Ok exits) b = StepsMade a items exits b
  StepsAnswered a items (Err e) b = StepsBegun a items b.desk b.taken

-- no exit was admitted to a session, and it lives
pub record IsUnexited {H D C T : Type 0} {h : HandlersGhosts H D C T} {d : CallerGhosts D} (semantics : Semantics H C T) (m : Meaning D) (session : Session H D C T h d) : Type 0 where
  pub unexited : (session_view semantics m session).state.exited ≡ None
  pub alive : life_of m session ≢ Exited

-- a step fails by these errors, and says that the desk is spent only where it is
pub record FailsInStep {D : Type 0} (m : Meaning D) (desk : D) (error : ServeError) : Type 0 where
  pub in_step : IsInStep error
  pub spent : SaysSpent m desk error

-- how steps are made, and what is seen of what makes them: X makes them, S are the states of its session, D the desks
pub record Way (X S D B : Type 0) : Type 1 where
  -- by how many rounds each step makes
  pub step : ℕ → S → ItemData → Effect → S → Type 0
  pub meaning : Meaning D
  -- the method table of a state
  pub table : S → List ℕ → Option Entry
  pub place : X → Place S D
  pub flushed : X → Option ℕ
  pub faults : X → ℕ
  -- what no step changes
  pub beside : X → B
  -- it stands between two steps
  pub is_ready : X → Type 0
  -- no exit was admitted
  pub is_unexited : X → Type 0
  pub has_exited : X → Bool

module _ {X S D B : Type 0} (way : Way X S D B) where
  -- a step may be made
  pub record MayGoOn (x : X) : Type 0 where
    pub ready : way.is_ready x
    pub unexited : way.is_unexited x

  -- where it stands after steps, by whether an exit was among them
  abbrev pub StandsAfter : X → Bool → Type 0
  StandsAfter x true = way.is_ready x × (way.has_exited x ≡ true)
  StandsAfter x false = MayGoOn x

module _ {X S D B : Type 0} (way : Way X S D B) (rounds : ℕ) where
  -- the steps of these items were made, and this was answered
  pub record MakesSteps (old : X) (items : List ItemData) (result : Result Bool ServeError) (new : X) : Type 0 where
    pub answered : StepsAnswered (way.step rounds) way.meaning (way.table (way.place old).state) (way.place old) items result (way.place new)
    pub same : IfOk result (λ _. (name : List ℕ) → way.table (way.place new).state name ≡ way.table (way.place old).state name)
    pub stands : IfOk result (StandsAfter way new)
    pub fails : IfErr result (FailsInStep way.meaning (way.place new).desk)
    pub grown : Grown way.meaning (way.place old).desk (way.place new).desk
    pub flushed : StaysFlushed (way.place old).taken (way.flushed old) (way.place new).taken (way.flushed new) (result_err result)
    pub sink : LeavesFaults way.faults way.beside old new (result_err result)
