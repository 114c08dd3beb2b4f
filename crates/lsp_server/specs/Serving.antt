-- What serving does with the bytes that it is given.
use Rattle.std.specs.Prelude.{◌≡◌, ◌≢◌, Bool, true, false, ℕ, List, [], Option, Some, None}
use Rattle.std.specs.Io.KnownBytes.{Appends}
use Rattle.lsp_rpc.specs.Message.{MessageData}
use Rattle.lsp_desk.specs.declared.life.Life.TheVariants.{Exited}
use Rattle.lsp_desk.specs.Meaning.{Meaning, Grown}
use Rattle.lsp_frame.specs.Codec.{At, more, items_at, told_at}
use Rattle.lsp_session.specs.declared.table.Entry.{Entry}
use Rattle.lsp_session.specs.Item.{ItemData}
use Rattle.lsp_session.specs.Semantics.{Semantics}
use Rattle.lsp_session.specs.State.{State, Effect}
use Rattle.lsp_session.specs.Run.{Order, Picked, Step, served}
use Rattle.lsp_server.specs.declared.step.ServeError.{ServeError}
use Rattle.lsp_server.specs.Errors.{SaysSpent}
use Rattle.lsp_server.specs.Items.{all_admitted}
use Rattle.lsp_server.specs.Written.{Place, Ran, IsPartOf}
use Rattle.lsp_server.specs.Served.{ServedTold}
use Rattle.lsp_server.specs.Consuming.{Given, piece, end, ConsumerOutcome, goes_on, done, stops, Consuming}

-- where serving stands: the session's state, its desk, what it put out, whether a call of it failed, what the codec
-- holds, and how many rounds each step makes
pub record Spot (S D : Type 0) : Type 0 where
  pub state : S
  pub desk : D
  pub out : List MessageData
  pub stopped : Bool
  pub codec : At
  pub rounds : ℕ

-- the same with what a sink has taken
abbrev pub after_taking : {S D : Type 0} → Option (List ℕ) → Spot S D → Place S D
after_taking taken a = record { state = a.state; desk = a.desk; taken = taken }

-- nothing failed, and what was put out was taken
pub record IsIdle {S D : Type 0} (a : Spot S D) : Type 0 where
  pub running : a.stopped ≡ false
  pub taken : a.out ≡ []

-- these bytes begin the frames of a run over some first ones of the items of what a codec holds, whatever bytes may
-- follow, and they were written
pub record PartTold {S D : Type 0} (step : S → ItemData → Effect → S → Type 0) (m : Meaning D) (find : List ℕ → Option Entry) (old : Place S D) (codec : At) (new_desk : D) (new_taken : Option (List ℕ)) : Type 0 where
  pub written : List ℕ
  pub part : (c : List ℕ) → IsPartOf step m old.state old.desk (served find (all_admitted (items_at (more codec c)))) written new_desk
  pub writes : Appends old.taken new_taken written

module _ {H D C T P : Type 0} (semantics : Semantics H C T) (m : Meaning D) (order : Order P) where
  abbrev pub Here : Type 0
  Here = Spot (Picked (State H semantics.Call semantics.Task) P) D

  abbrev pub find_here : Here → List ℕ → Option Entry
  find_here a = semantics.find a.state.session.service

  abbrev pub StepHere : Here → Picked (State H semantics.Call semantics.Task) P → ItemData → Effect → Picked (State H semantics.Call semantics.Task) P → Type 0
  StepHere a = Step semantics order a.rounds

  -- no exit was admitted, and all that the codec tells was given
  pub record IsOpen (a : Here) : Type 0 where
    pub idle : IsIdle a
    pub exited : a.state.session.exited ≡ None
    pub lives : a.state.session.desk.life ≢ Exited
    pub told : told_at a.codec ≡ []

  -- the items that are told with these bytes were served, and these bytes written; it goes on, or an exit was the last
  pub record ServesTold (a : Here) (bytes : List ℕ) (exits : Bool) (written : List ℕ) (b : Here) : Type 0 where
    pub told : ServedTold (StepHere a) m (find_here a) (after_taking (Some []) a) (more a.codec bytes) exits (after_taking (Some written) b) b.codec
    pub idle : IsIdle b
    pub rounds : b.rounds ≡ a.rounds

  -- the items of the end of input were served, and these bytes written
  pub record ServesEnd (a : Here) (written : List ℕ) (b : Here) : Type 0 where
    pub ran : Ran (StepHere a) m (after_taking (Some []) a) (served (find_here a) (all_admitted (items_at a.codec))) (after_taking (Some written) b)
    pub idle : IsIdle b

  -- an error stopped it, and these bytes were written, which have this property
  pub record StopsWith (a : Here) (e : ServeError) (Part : Type 0) (b : Here) : Type 0 where
    pub part : Part
    pub grown : Grown m a.desk b.desk
    pub spent : SaysSpent m b.desk e

  abbrev pub Serves : Here → Given → ConsumerOutcome → List ℕ → Here → Type 0
  Serves a (piece bytes) goes_on written b = ServesTold a bytes false written b × IsOpen b
  Serves a (piece bytes) done written b = ServesTold a bytes true written b
  Serves a (piece bytes) (stops e) written b = StopsWith a e ((c : List ℕ) → IsPartOf (StepHere a) m a.state a.desk (served (find_here a) (all_admitted (items_at (more (more a.codec bytes) c)))) written b.desk) b
  Serves a end goes_on written b = ⊥
  Serves a end done written b = ServesEnd a written b
  Serves a end (stops e) written b = StopsWith a e (IsPartOf (StepHere a) m a.state a.desk (served (find_here a) (all_admitted (items_at a.codec))) written b.desk) b

  abbrev pub serves : Consuming Here
  serves = record { is_open = IsOpen; does = Serves }
