-- How the life of a session follows what comes of its requests.
use Rattle.std.specs.Prelude.{◌≡◌, ℕ, true, false, Option, Some, Result, Ok, Err}
use Rattle.serde_json.specs.Data.{Data}
use Rattle.lsp_rpc.specs.Message.{IdData, ErrorData, RequestData, request}
use Rattle.lsp_desk.specs.declared.life.Life.TheVariants.{Uninitialized, Initializing, Initialized, ShutDown}
use Rattle.lsp_session.specs.declared.table.Entry.{Entry}
use Rattle.lsp_session.specs.declared.table.Layer.{Layer}
use Rattle.lsp_session.specs.declared.table.Layer.TheVariants.{Initialize, Shutdown}
use Rattle.lsp_session.specs.Item.{ItemData, message}
use Rattle.lsp_session.specs.Semantics.{Semantics, Done}
use Rattle.lsp_session.specs.Admission.{Starts, is_live}
use Rattle.lsp_session.specs.State.{State, Effect, initializing}
use Rattle.lsp_session.specs.Run.{Admits, Poll, admission_of, is_exit}
use Rattle.lsp_session.specs.Laws.{IsCancelOf}

-- a poll of an `initialize` that goes on ends it with this outcome
pub record EndsInitialize {H C T : Type 0} (semantics : Semantics H C T) (s : State H semantics.Call semantics.Task) (place : ℕ) (e : Effect) (s2 : State H semantics.Call semantics.Task)
    (p : Poll semantics s place e s2) (outcome : Result Data ErrorData) : Type 0 where
  -- the life is that while one goes on
  pub goes_on : s.desk.life ≡ Initializing
  -- the call that is polled is an `initialize`
  pub in_layer : p.work.entry.layer ≡ Initialize
  -- and ends so
  pub ends : p.progress ≡ Done outcome

-- the item is a request or a notification of a registered method in this layer
pub record IsOfLayer {H C T : Type 0} (semantics : Semantics H C T) (service : H) (item : ItemData) (layer : Layer) : Type 0 where
  pub r : RequestData
  pub entry : Entry
  pub item_is : item ≡ message (request r)
  pub found : semantics.find service r.method ≡ Some entry
  pub in_layer : entry.layer ≡ layer

-- the item cancels an `initialize` that goes on, under this id
pub record CancelsInitialize {H C T : Type 0} (semantics : Semantics H C T) (s : State H semantics.Call semantics.Task) (item : ItemData) (i : IdData) : Type 0 where
  -- it names the id
  pub cancels : IsCancelOf semantics s.service item i
  -- under which an `initialize` goes on
  pub goes_on : is_live i (initializing s) ≡ true

-- an `initialize` begins with the admission of the item
pub record BeginsInitialize {H C T : Type 0} (semantics : Semantics H C T) (s : State H semantics.Call semantics.Task) (item : ItemData) : Type 0 where
  pub id : Option IdData
  pub entry : Entry
  pub call : semantics.Call
  pub starts : (admission_of semantics s item).verdict ≡ Starts id entry call
  pub in_layer : entry.layer ≡ Initialize

-- the item is none of those whose admission changes a life
pub record IsOther {H C T : Type 0} (semantics : Semantics H C T) (s : State H semantics.Call semantics.Task) (item : ItemData) : Type 0 where
  -- it is no `exit`
  pub no_exit : is_exit (semantics.find s.service) item ≡ false
  -- it begins no `initialize`
  pub no_begin : ¬ (BeginsInitialize semantics s item)
  -- it is no `shutdown` that comes to an initialized session
  pub no_shutdown : s.desk.life ≡ Initialized → ¬ (IsOfLayer semantics s.service item Shutdown)
  -- it cancels no `initialize`
  pub no_cancel : (i : IdData) → ¬ (CancelsInitialize semantics s item i)

pub record LivesFollow {H C T : Type 0} (semantics : Semantics H C T) : Type 0 where
  -- where an `initialize` begins, the session is Initializing
  pub begun : (s s2 : State H semantics.Call semantics.Task) (item : ItemData) (e : Effect) → BeginsInitialize semantics s item → Admits semantics s (admission_of semantics s item) e s2
      → s2.desk.life ≡ Initializing
  -- where it ends with a result, Initialized
  pub ended_well : (s s2 : State H semantics.Call semantics.Task) (place : ℕ) (e : Effect) (p : Poll semantics s place e s2) (value : Data) → EndsInitialize semantics s place e s2 p (Ok value)
      → s2.desk.life ≡ Initialized
  -- where it ends with an error, Uninitialized
  pub failed : (s s2 : State H semantics.Call semantics.Task) (place : ℕ) (e : Effect) (p : Poll semantics s place e s2) (error : ErrorData) → EndsInitialize semantics s place e s2 p (Err error)
      → s2.desk.life ≡ Uninitialized
  -- and so where it is cancelled
  pub cancelled : (s s2 : State H semantics.Call semantics.Task) (item : ItemData) (i : IdData) (e : Effect) → s.desk.life ≡ Initializing → CancelsInitialize semantics s item i
      → Admits semantics s (admission_of semantics s item) e s2 → s2.desk.life ≡ Uninitialized
  -- a `shutdown` that comes to an initialized session shuts it down, whatever it is answered
  pub shut : (s s2 : State H semantics.Call semantics.Task) (item : ItemData) (e : Effect) → s.desk.life ≡ Initialized → IsOfLayer semantics s.service item Shutdown
      → Admits semantics s (admission_of semantics s item) e s2 → s2.desk.life ≡ ShutDown
  -- every other poll keeps the life
  pub goes_on : (s s2 : State H semantics.Call semantics.Task) (place : ℕ) (e : Effect) (p : Poll semantics s place e s2)
      → ((outcome : Result Data ErrorData) → ¬ (EndsInitialize semantics s place e s2 p outcome)) → s2.desk.life ≡ s.desk.life
  -- and so does every other admission but an exit
  pub stays : (s s2 : State H semantics.Call semantics.Task) (item : ItemData) (e : Effect) → IsOther semantics s item → Admits semantics s (admission_of semantics s item) e s2
      → s2.desk.life ≡ s.desk.life
