-- What every session keeps, in words.
use Rattle.std.specs.Prelude.{◌≡◌, ◌≢◌, ◌<◌, ◌≤◌, ◌++◌, ℕ, List, [], ◌∷◌, Bool, true, false, length, map, IsPermutation, Option, Some, None, Err}
use Rattle.std.specs.List.{list_any}
use Rattle.lsp_rpc.specs.declared.code.ErrorCode.TheVariants.{InvalidRequest}
use Rattle.lsp_rpc.specs.Message.{IdData, null_id, RequestData, MessageData, request, error_with_code, not_initialized_error}
use Rattle.lsp_rpc.specs.Ids.{same_id}
use Rattle.lsp_desk.specs.declared.life.Life.{Life}
use Rattle.lsp_desk.specs.declared.life.Life.TheVariants.{Uninitialized, Initializing, ShutDown, Exited}
use Rattle.lsp_desk.specs.Lives.{rank}
use Rattle.lsp_session.specs.declared.table.Entry.{Entry}
use Rattle.lsp_session.specs.declared.table.Layer.{Layer}
use Rattle.lsp_session.specs.declared.table.Layer.TheVariants.{Initialize, Exit, Cancel}
use Rattle.lsp_session.specs.Item.{ItemData, message, item_has_float}
use Rattle.lsp_session.specs.Semantics.{Semantics, Phase, Fresh, Held}
use Rattle.lsp_session.specs.Admission.{Cancels, Starts, is_live}
use Rattle.lsp_rpc.specs.Cancel.{cancelled_id}
use Rattle.lsp_session.specs.State.{Work, State, Effect, IsSettled, FitsLife, live, opening_by, marked, dues}
use Rattle.lsp_session.specs.Works.{AreSound}
use Rattle.lsp_session.specs.Run.{answer, cancelled, Admits, admission_of, Order, Poll, PollsAt, Round, Drains, Picked, Step, Run, is_exit, has_exit}
use Rattle.lsp_session.specs.Count.{times_id, answers_to, owed, Counts}

-- ---- the life cycle of LSP 3.17

-- nothing but what others do on the desk is changed
pub record IsUntouched {H C T : Type 0} (s s2 : State H C T) : Type 0 where
  pub same : s2 ≡ record s { desk = s2.desk }
  pub life : s2.desk.life ≡ s.desk.life

-- a request is answered so, and changes nothing
pub record IsAnswered {H C T : Type 0} (s : State H C T) (m : MessageData) (e : Effect) (s2 : State H C T) : Type 0 where
  pub out : e.out ≡ m ∷ []
  pub untouched : IsUntouched s s2

-- a request of a registered method in this layer is admitted
pub record Requests {H C T : Type 0} (semantics : Semantics H C T) (s : State H semantics.Call semantics.Task) (i : IdData) (layer : Layer) (e : Effect) (s2 : State H semantics.Call semantics.Task) : Type 0 where
  pub r : RequestData
  pub entry : Entry
  pub id : r.id ≡ Some i
  pub found : semantics.find s.service r.method ≡ Some entry
  pub in_layer : entry.layer ≡ layer
  pub admits : Admits semantics s (admission_of semantics s (message (request r))) e s2

-- a method that needs an `initialize` before it: any but `initialize` itself, `exit` and a cancel
abbrev pub NeedsInitialize : Layer → Type 0
NeedsInitialize layer = (layer ≢ Initialize) × (layer ≢ Exit) × (layer ≢ Cancel)

-- `initialize` comes first: until it has ended well, a request of any method that needs it is answered -32002, `shutdown` too
pub record InitializeComesFirst {H C T : Type 0} (semantics : Semantics H C T) : Type 0 where
  -- where none goes on
  pub before : (s s2 : State H semantics.Call semantics.Task) (i : IdData) (layer : Layer) (e : Effect) → s.desk.life ≡ Uninitialized → NeedsInitialize layer → Requests semantics s i layer e s2
      → IsAnswered s (answer i (Err not_initialized_error)) e s2
  -- and while one goes on
  pub meanwhile : (s s2 : State H semantics.Call semantics.Task) (i : IdData) (layer : Layer) (e : Effect) → s.desk.life ≡ Initializing → NeedsInitialize layer → Requests semantics s i layer e s2
      → IsAnswered s (answer i (Err not_initialized_error)) e s2

-- it comes once: a second one is answered -32600 while the first goes on and ever after it has ended well
abbrev pub InitializeComesOnce : {H C T : Type 0} → Semantics H C T → Type 0
InitializeComesOnce {H} semantics = (s s2 : State H semantics.Call semantics.Task) (i : IdData) (e : Effect) → s.desk.life ≢ Uninitialized → Requests semantics s i Initialize e s2
    → IsAnswered s (answer i (Err (error_with_code InvalidRequest))) e s2

-- nothing begins after `shutdown`, whatever comes, and a request of any method but `exit` is answered -32600:
-- a second `shutdown`, an `initialize` and a cancel that has an id too
pub record NothingBeginsAfterShutdown {H C T : Type 0} (semantics : Semantics H C T) : Type 0 where
  pub begins_none : (s : State H semantics.Call semantics.Task) (item : ItemData) (id : Option IdData) (entry : Entry) (c : semantics.Call) → s.desk.life ≡ ShutDown
      → (admission_of semantics s item).verdict ≢ Starts id entry c
  pub refuses : (s s2 : State H semantics.Call semantics.Task) (i : IdData) (layer : Layer) (e : Effect) → s.desk.life ≡ ShutDown → layer ≢ Exit → Requests semantics s i layer e s2
      → IsAnswered s (answer i (Err (error_with_code InvalidRequest))) e s2

-- `exit` always ends a session: it is noted in which life it came, each request that was live is answered `RequestCancelled`,
-- and none is left
pub record HasEnded {H C T : Type 0} (s : State H C T) (e : Effect) (s2 : State H C T) : Type 0 where
  pub life : s2.desk.life ≡ Exited
  pub noted : s2.exited ≡ Some s.desk.life
  -- after these messages of the server's own the answers are put out, in order of admission, and nothing else is
  pub messages : List RequestData
  pub answered : e.out ≡ map request messages ++ map cancelled (live s)
  pub none_left : live s2 ≡ []

abbrev pub ExitEnds : {H C T : Type 0} → Semantics H C T → Type 0
ExitEnds {H} semantics = (s s2 : State H semantics.Call semantics.Task) (item : ItemData) (e : Effect) → is_exit (semantics.find s.service) item ≡ true
    → Admits semantics s (admission_of semantics s item) e s2 → HasEnded s e s2

-- a life falls only from Initializing to Uninitialized
abbrev pub FallsInTime : Life → Life → Type 0
FallsInTime life life2 = rank life2 < rank life → (life ≡ Initializing) × (life2 ≡ Uninitialized)

pub record LivesGoOn {H C T : Type 0} (semantics : Semantics H C T) : Type 0 where
  pub in_admission : (s s2 : State H semantics.Call semantics.Task) (item : ItemData) (e : Effect) → Admits semantics s (admission_of semantics s item) e s2 → FallsInTime s.desk.life s2.desk.life
  pub in_poll : (s s2 : State H semantics.Call semantics.Task) (place : ℕ) (e : Effect) → Poll semantics s place e s2 → FallsInTime s.desk.life s2.desk.life
  pub at_the_end : (s s2 : State H semantics.Call semantics.Task) (e : Effect) → Drains s e s2 → s2.desk.life ≡ s.desk.life

-- ---- runs

-- a run from where nothing was admitted yet
pub record OpenedRun {H C T P : Type 0} (semantics : Semantics H C T) (order : Order P) (rounds : ℕ) (service : H) (items : List ItemData) (e : Effect) (last : State H semantics.Call semantics.Task) : Type 0 where
  pub max : ℕ
  pub wait : ℕ
  pub empty_params : Bool
  pub some : 1 ≤ max
  pub pick : P
  pub then : P
  pub runs : Run (Step semantics order rounds) (record { session = opening_by service max wait empty_params; pick = pick }) items e (record { session = last; pick = then })

-- in every state that a run comes to the live ids differ, no call waits while a slot is free, the calls fit the life, and
-- where no item holds a float each call is sound
abbrev pub FactsHold : {H C T P : Type 0} → Semantics H C T → Order P → Type 0
FactsHold {H} semantics order = (rounds : ℕ) (service : H) (items : List ItemData) (e : Effect) (last : State H semantics.Call semantics.Task)
    → OpenedRun semantics order rounds service items e last → IsSettled last × FitsLife last × (list_any item_has_float items ≡ false → AreSound semantics (last.slots ++ last.queue))

-- each owed request and each fault is answered once, but for the requests that are still live; after an exit none is
pub record AnsweredOnce {H C T P : Type 0} (semantics : Semantics H C T) (order : Order P) : Type 0 where
  pub counts : (rounds : ℕ) (service : H) (items : List ItemData) (e : Effect) (last : State H semantics.Call semantics.Task)
      → OpenedRun semantics order rounds service items e last → Counts (semantics.find service) items e.out (live last)
  pub after_exit : (rounds : ℕ) (service : H) (items : List ItemData) (e : Effect) (last : State H semantics.Call semantics.Task)
      → OpenedRun semantics order rounds service items e last → has_exit (semantics.find service) items ≡ true → live last ≡ []

-- the item is a cancel that names this id
pub record IsCancelOf {H C T : Type 0} (semantics : Semantics H C T) (service : H) (item : ItemData) (i : IdData) : Type 0 where
  pub r : RequestData
  pub entry : Entry
  pub item_is : item ≡ message (request r)
  pub no_id : r.id ≡ None
  pub found : semantics.find service r.method ≡ Some entry
  pub in_layer : entry.layer ≡ Cancel
  pub names : cancelled_id r.params ≡ Some i

-- a live request that is cancelled is answered so, and after that answer it has no other, until a newer one takes its id
pub record CancelledOnce {H C T P : Type 0} (semantics : Semantics H C T) (order : Order P) : Type 0 where
  -- a cancel that names a live id cancels that request
  pub cancels : (s : State H semantics.Call semantics.Task) (item : ItemData) (i : IdData) → IsCancelOf semantics s.service item i → is_live i (live s) ≡ true
      → (admission_of semantics s item).verdict ≡ Cancels i
  -- which is answered `RequestCancelled`, and nothing else is put out
  pub answered : (s s2 : State H semantics.Call semantics.Task) (item : ItemData) (i : IdData) (e : Effect) → (admission_of semantics s item).verdict ≡ Cancels i
      → Admits semantics s (admission_of semantics s item) e s2 → e.out ≡ cancelled i ∷ []
  -- and is gone
  pub gone : (s s2 : State H semantics.Call semantics.Task) (item : ItemData) (i : IdData) (e : Effect) → IsSettled s → (admission_of semantics s item).verdict ≡ Cancels i
      → Admits semantics s (admission_of semantics s item) e s2 → is_live i (live s2) ≡ false
  -- and what is gone is not answered
  pub silent : (rounds : ℕ) (s s2 : Picked (State H semantics.Call semantics.Task) P) (items : List ItemData) (i : IdData) (e : Effect) → IsSettled s.session
      → is_live i (live s.session) ≡ false → times_id i (owed (semantics.find s.session.service) items) ≡ 0 → same_id i null_id ≡ false
      → Run (Step semantics order rounds) s items e s2 → (answers_to i e.out ≡ 0) × (is_live i (live s2.session) ≡ false)

-- ---- rounds

-- the call was not polled yet
abbrev pub is_fresh : {C T : Type 0} → Phase C T → Bool
is_fresh (Fresh c) = true
is_fresh (Held t) = false

-- the calls that are polled, one after another, each as it stood before its poll
abbrev pub polled_by : {H C T P : Type 0} (semantics : Semantics H C T) (order : Order P) (s : State H semantics.Call semantics.Task) (p : P) (places : List ℕ) (e : Effect)
    (s2 : State H semantics.Call semantics.Task) (p2 : P) → PollsAt semantics order s p places e s2 p2 → List (Work semantics.Call semantics.Task)
polled_by semantics order s p [] e s2 p2 h = []
polled_by semantics order s p (place ∷ places) e s2 p2 h = h.3.work ∷ polled_by semantics order h.0 (order.later p (dues s.slots)) places h.2 s2 p2 h.5

-- each call that has a slot, or comes to one, was polled once, no other was, and none waits while a slot is free
pub record PollsAll {H C T P : Type 0} (semantics : Semantics H C T) (order : Order P) (s : State H semantics.Call semantics.Task) (p : P) (e : Effect) (s2 : State H semantics.Call semantics.Task) (p2 : P)
    (h : Round semantics order s p e s2 p2) : Type 0 where
  -- of those that waited these came to a slot, and the others still wait
  pub came : List (Work semantics.Call semantics.Task)
  pub waited : s.queue ≡ came ++ s2.queue
  -- those that had a slot and those that came to one are the calls that were polled, each once, in another order
  pub once : IsPermutation (map marked (s.slots ++ came)) (polled_by semantics order _ p h.places e s2 p2 h.polls)
  -- what stands in a slot was polled
  pub polled : list_any (λ w. is_fresh w.phase) s2.slots ≡ false
  pub full : 0 < length s2.queue → s2.max ≤ length s2.slots

abbrev pub RoundsPollAll : {H C T P : Type 0} → Semantics H C T → Order P → Type 0
RoundsPollAll {H} {P = P} semantics order = (s s2 : State H semantics.Call semantics.Task) (p p2 : P) (e : Effect) → IsSettled s → (h : Round semantics order s p e s2 p2) → PollsAll semantics order s p e s2 p2 h
