-- Which calls begin in a run, and which were started.
use Rattle.std.specs.Prelude.{◌≡◌, ◌≤◌, ◌+◌, ◌++◌, ℕ, zero, suc, List, [], ◌∷◌, map, Bool, Option, Some}
use Rattle.lsp_rpc.specs.Message.{IdData, RequestData, request}
use Rattle.lsp_session.specs.declared.table.Entry.{Entry}
use Rattle.lsp_session.specs.Item.{ItemData, message}
use Rattle.lsp_session.specs.Semantics.{Semantics, Phase, Fresh, Held, call}
use Rattle.lsp_session.specs.Admission.{Verdict, Silence, Refuses, Answers, Cancels, Exits, Starts}
use Rattle.lsp_session.specs.State.{State, Effect, dues, marked}
use Rattle.lsp_session.specs.Run.{admission_of, reads_in, Order, PollsAt, Rounds, Picked, Step, Run}
use Rattle.lsp_session.specs.Count.{one_if}
use Rattle.lsp_session.specs.Laws.{OpenedRun}

-- a call, for a request with this id or for a notification, by this entry of the method table
pub record Begin (C : Type 0) : Type 0 where
  pub id : Option IdData
  pub entry : Entry
  pub call : C

-- how many of these pass a test
abbrev pub passing : {B : Type 0} → (B → Bool) → List B → ℕ
passing f [] = 0
passing f (x ∷ xs) = one_if (f x) + passing f xs

-- ---- what begins

-- a work that was not polled yet begins when it is polled
abbrev pub begins : {C T : Type 0} → Option IdData → Entry → Phase C T → List (Begin C)
begins id entry (Fresh c) = record { id = id; entry = entry; call = c } ∷ []
begins id entry (Held t) = []

abbrev pub begun_by_polls : {H C T P : Type 0} (semantics : Semantics H C T) (order : Order P) (s : State H semantics.Call semantics.Task) (p : P) (places : List ℕ) (e : Effect)
    (s2 : State H semantics.Call semantics.Task) (p2 : P) → PollsAt semantics order s p places e s2 p2 → List (Begin semantics.Call)
begun_by_polls semantics order s p [] e s2 p2 h = []
begun_by_polls semantics order s p (place ∷ places) e s2 p2 h =
    begins h.3.work.id h.3.work.entry h.3.work.phase ++ begun_by_polls semantics order h.0 (order.later p (dues s.slots)) places h.2 s2 p2 h.5

abbrev pub begun_by_rounds : {H C T P : Type 0} (semantics : Semantics H C T) (order : Order P) (n : ℕ) (s : State H semantics.Call semantics.Task) (p : P) (e : Effect)
    (s2 : State H semantics.Call semantics.Task) (p2 : P) → Rounds semantics order n s p e s2 p2 → List (Begin semantics.Call)
begun_by_rounds semantics order zero s p e s2 p2 h = []
begun_by_rounds semantics order (suc n) s p e s2 p2 h =
    begun_by_rounds semantics order n s p h.2 h.0 h.1 h.4
    ++ begun_by_polls semantics order (record h.0 { slots = map marked h.0.slots }) h.1 h.5.places h.3 s2 p2 h.5.polls

-- the calls that begin in a run, in the order in which they do
abbrev pub begun : {H C T P : Type 0} (semantics : Semantics H C T) (order : Order P) (rounds : ℕ) (s : Picked (State H semantics.Call semantics.Task) P) (items : List ItemData) (e : Effect)
    (s2 : Picked (State H semantics.Call semantics.Task) P) → Run (Step semantics order rounds) s items e s2 → List (Begin semantics.Call)
begun semantics order rounds s [] e s2 h = []
begun semantics order rounds s (item ∷ items) e s2 h =
    begun_by_rounds semantics order rounds h.3.admitted s.pick h.3.second h.3.polled h.0.pick h.3.polls ++ begun semantics order rounds h.0 items h.2 s2 h.4

-- ---- what is started

abbrev pub starts : {C : Type 0} → Verdict C → List (Begin C)
starts Silence = []
starts (Refuses i error) = []
starts (Answers r) = []
starts (Cancels i) = []
starts Exits = []
starts (Starts id entry c) = record { id = id; entry = entry; call = c } ∷ []

-- the calls that admission starts in a run, in order of admission
abbrev pub started : {H C T P : Type 0} (semantics : Semantics H C T) (order : Order P) (rounds : ℕ) (s : Picked (State H semantics.Call semantics.Task) P) (items : List ItemData) (e : Effect)
    (s2 : Picked (State H semantics.Call semantics.Task) P) → Run (Step semantics order rounds) s items e s2 → List (Begin semantics.Call)
started semantics order rounds s [] e s2 h = []
started semantics order rounds s (item ∷ items) e s2 h = starts (admission_of semantics s.session item).verdict ++ started semantics order rounds h.0 items h.2 s2 h.4

-- the item is a request of the entry's method with this id, and the call is what its own params are read as in this state
pub record IsRequested {H C T : Type 0} (semantics : Semantics H C T) (s : State H semantics.Call semantics.Task) (item : ItemData) (id : Option IdData) (entry : Entry) (c : semantics.Call) : Type 0 where
  pub r : RequestData
  pub item_is : item ≡ message (request r)
  pub id_is : r.id ≡ id
  pub found : semantics.find s.service r.method ≡ Some entry
  pub read : reads_in semantics s entry r.params ≡ call c

-- ---- the law

-- a call begins only where admission started it, once for each start, and with what its own request's params are read as
pub record BeginsWhereStarted {H C T P : Type 0} (semantics : Semantics H C T) (order : Order P) : Type 0 where
  -- whatever test is made of them, no more begin than were started
  pub once : (rounds : ℕ) (service : H) (items : List ItemData) (e : Effect) (last : State H semantics.Call semantics.Task) (h : OpenedRun semantics order rounds service items e last)
      (test : Begin semantics.Call → Bool) → passing test (begun semantics order rounds _ items e _ h.runs) ≤ passing test (started semantics order rounds _ items e _ h.runs)
  pub requested : (s : State H semantics.Call semantics.Task) (item : ItemData) (id : Option IdData) (entry : Entry) (c : semantics.Call) → (admission_of semantics s item).verdict ≡ Starts id entry c
      → IsRequested semantics s item id entry c
