-- How a server runs a session.
use Rattle.std.specs.Prelude.{ℕ, Bool, List, [], Option}
use Rattle.lsp_desk.specs.Meaning.{Meaning}
use Rattle.lsp_frame.specs.declared.limits.Limits.{Limits}
use Rattle.lsp_frame.specs.declared.settings.CodecSettings.{CodecSettings}
use Rattle.lsp_frame.specs.Codec.{Floats}
use Rattle.lsp_session.specs.declared.table.Entry.{Entry}
use Rattle.lsp_session.specs.Item.{ItemData}
use Rattle.lsp_session.specs.Semantics.{Semantics}
use Rattle.lsp_session.specs.State.{State, Effect, opening_by}
use Rattle.lsp_session.specs.Run.{Order, Picked, Step}
use Rattle.lsp_session.specs.Session.{SessionView}

-- the steps of a session, and where it starts: S are its states, D the desks
pub record Course (S D : Type 0) : Type 1 where
  pub step : S → ItemData → Effect → S → Type 0
  pub meaning : Meaning D
  -- the method table
  pub find : List ℕ → Option Entry
  -- how the codec reads
  pub codec : CodecSettings
  pub start : S
  pub desk : D

-- what a server is given to run a session with
pub record Setting (H D P : Type 0) : Type 0 where
  pub service : H
  pub desk : D
  -- how many calls are polled in a round at most
  pub max : ℕ
  -- how many calls that wait let no further request wait
  pub wait : ℕ
  -- how many rounds each step makes
  pub rounds : ℕ
  pub limits : Limits
  -- what becomes of floats
  pub floats : Floats
  -- whether params that hold nothing are allowed where a method takes none
  pub empty_params : Bool
  -- the state of the pick
  pub pick : P

-- how its codec reads
abbrev pub codec_of : {H D P : Type 0} → Setting H D P → CodecSettings
codec_of setting = record { limits = setting.limits; floats = setting.floats }

-- a session that has admitted nothing
abbrev pub opening_view : {H D C T P : Type 0} → Setting H D P → SessionView H D C T
opening_view setting = record { desk = setting.desk; state = opening_by setting.service setting.max setting.wait setting.empty_params; out = [] }

-- a session with the state of its pick
abbrev pub picked : {H D C T P : Type 0} → SessionView H D C T → P → Picked (State H C T) P
picked view p = record { session = view.state; pick = p }

-- the course of a session from here on
abbrev pub course_from : {H D C T P : Type 0} → (semantics : Semantics H C T) → Meaning D → Order P → ℕ → CodecSettings → SessionView H D semantics.Call semantics.Task → P
    → Course (Picked (State H semantics.Call semantics.Task) P) D
course_from semantics m order rounds codec view p = record {
  step = Step semantics order rounds;
  meaning = m;
  find = semantics.find view.state.service;
  codec = codec;
  start = picked view p;
  desk = view.desk;
}

-- the course of the session of a server: the one place that makes it of what the server is given
abbrev pub course : {H D C T P : Type 0} → (semantics : Semantics H C T) → Meaning D → Order P → Setting H D P → Course (Picked (State H semantics.Call semantics.Task) P) D
course semantics m order setting = course_from semantics m order setting.rounds (codec_of setting) (opening_view setting) setting.pick
